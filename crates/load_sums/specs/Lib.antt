pub mod Sums
pub mod Line
pub mod Lines
