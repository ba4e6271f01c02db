pub mod Exchanges
pub mod Least
pub mod Pairs
pub mod Rounds
