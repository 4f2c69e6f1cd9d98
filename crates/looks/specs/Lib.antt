pub mod Looked
pub mod Alike
pub mod Common
pub mod Setting
pub mod Examples
