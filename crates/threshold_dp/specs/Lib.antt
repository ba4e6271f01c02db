pub mod Kept
pub mod Radii
pub mod Room
pub mod Table
