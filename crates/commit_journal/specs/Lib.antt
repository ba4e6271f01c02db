pub mod Chunks
pub mod Fronts
pub mod Journals
pub mod Kept
