pub mod Homes
pub mod Sound
pub mod Meaning
pub mod Agree
pub mod Opened
