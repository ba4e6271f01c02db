pub mod Vectors
pub mod Bounds
pub mod Finding
pub mod Splits
