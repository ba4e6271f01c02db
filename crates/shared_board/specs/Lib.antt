pub mod Boards
pub mod Shared
