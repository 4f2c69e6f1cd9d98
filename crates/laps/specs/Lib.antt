pub mod Laps
pub mod Examples
pub mod Answers
pub mod Ranges
pub mod Floor
pub mod Inverse
pub mod Order
pub mod Pads
