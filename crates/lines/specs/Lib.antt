pub mod Text
pub mod Digits
pub mod Page
pub mod Keys
pub mod Lengths
pub mod Examples
