pub mod Choice
pub mod Changed
pub mod Tests
pub mod Every
pub mod Arms
pub mod Outcomes
pub mod Parts
pub mod Opened
