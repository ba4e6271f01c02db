pub mod Rebuilding
pub mod SwappingIn
pub mod Searching
