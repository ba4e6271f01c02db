pub mod Outcomes
pub mod Searched
pub mod Tending
pub mod Turns
