pub mod Standing
pub mod Whole
pub mod Written
