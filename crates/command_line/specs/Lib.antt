pub mod CommandOptions
pub mod WrittenOptions
pub mod CommandWords
pub mod ListenWords
pub mod Commands
pub mod Kept
pub mod TraceWords
pub mod ReadWords
