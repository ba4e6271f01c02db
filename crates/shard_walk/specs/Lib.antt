pub mod Planned
pub mod Walks
