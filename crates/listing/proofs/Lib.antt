pub mod Leaves
pub mod Kept
pub mod Examples
