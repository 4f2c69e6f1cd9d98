pub mod Lent
pub mod Outcomes
pub mod Tables
pub mod Turns
pub mod Pages
