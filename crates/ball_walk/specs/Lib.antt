pub mod Balls
pub mod FlipTable
pub mod Flips
pub mod Walk
