pub mod Opening
pub mod Pinning
pub mod Sources
