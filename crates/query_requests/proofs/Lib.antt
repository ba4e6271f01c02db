pub mod NextLemmas
pub mod AskLemmas
pub mod OpenedLemmas
pub mod FrameLemmas
pub mod OpeningLemmas
