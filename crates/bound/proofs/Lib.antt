pub mod Examples
pub mod Cheats
pub mod Scans
pub mod Induction
pub mod Applied
