pub mod Decisions
pub mod Entries
pub mod Meaning
