pub mod Kept
pub mod KeptLists
pub mod Reserved
pub mod Shared
pub mod Tables
