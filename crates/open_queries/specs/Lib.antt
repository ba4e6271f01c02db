pub mod Queries
pub mod Kept
pub mod Writing
pub mod Answers
pub mod Giving
