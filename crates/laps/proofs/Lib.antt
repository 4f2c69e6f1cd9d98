pub mod Floor
pub mod Inverse
pub mod Quotients
pub mod Keys
