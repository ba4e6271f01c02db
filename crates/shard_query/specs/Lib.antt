pub mod Opening
pub mod ScanLaw
pub mod Standings
pub mod TaskLaw
pub mod Tasks
