pub mod SplitLemmas
pub mod PositionLemmas
pub mod FindingLemmas
pub mod MissedLemmas
pub mod ChoiceLemmas
pub mod BestLemmas
pub mod BoundLemmas
