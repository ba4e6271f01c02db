pub mod ArrangementLemmas
pub mod CountingLemmas
pub mod ImproveLemmas
pub mod RoundLemmas
pub mod SearchLemmas
pub mod StepLemmas
pub mod TrialLemmas
