pub mod ChoiceLemmas
pub mod ProbeLemmas
pub mod RadiusLemmas
pub mod RunLemmas
