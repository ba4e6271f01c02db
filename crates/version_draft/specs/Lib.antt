pub mod KeptDrafts
pub mod PartDrafts
pub mod Unfinished
