pub mod Counted
pub mod CountsLaw
pub mod Kept
pub mod Probed
