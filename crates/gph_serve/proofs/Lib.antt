pub mod RunLemmas
pub mod CompleteLemmas
pub mod LoadLemmas
pub mod TraceLemmas
pub mod BoardLemmas
