pub mod PinnedLemmas
pub mod SampleLemmas
pub mod TendLemmas
pub mod TurnLemmas
