pub mod Behind
pub mod Sizes
pub mod ByKind
pub mod ByThree
