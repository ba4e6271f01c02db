pub mod Meeting
pub mod Traced
pub mod Kept
