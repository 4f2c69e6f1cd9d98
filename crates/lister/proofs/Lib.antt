mod Levels
mod Whole
