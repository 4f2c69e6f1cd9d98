pub mod Playing
pub mod Whole
pub mod Exact
pub mod FewKeys
pub mod Listed
pub mod Opened
pub mod Examples
