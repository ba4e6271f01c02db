pub mod Requests
pub mod Asked
pub mod ShardsAsked
pub mod Lines
pub mod Stored
pub mod Replies
pub mod Written
