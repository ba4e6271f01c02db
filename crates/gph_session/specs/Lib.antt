pub mod Sessions
pub mod Flow
pub mod Pieces
pub mod Serving
