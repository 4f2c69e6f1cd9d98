pub mod ReadsAttempt
pub mod ReadsLink
pub mod ReadsHelp
pub mod ReadsOne
pub mod SameLook
pub mod SetsLooked
pub mod Undisturbed
pub mod Examples
