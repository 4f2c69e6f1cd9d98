pub mod Lent
pub mod Outcomes
