pub mod Fronting
pub mod Searching
pub mod ShardBuilds
pub mod Swapping
