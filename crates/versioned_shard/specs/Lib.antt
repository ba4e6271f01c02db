pub mod Along
pub mod Rule
pub mod Shards
pub mod Way
