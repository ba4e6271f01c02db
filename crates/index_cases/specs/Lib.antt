pub mod Listing
pub mod Nearer
