pub mod Kept
pub mod Levels
pub mod Sums
