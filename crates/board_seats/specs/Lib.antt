pub mod Moves
pub mod Rule
pub mod ShardCalls
pub mod Told
pub mod Views
pub mod Visits
