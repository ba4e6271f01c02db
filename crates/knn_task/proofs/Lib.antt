pub mod KeepLemmas
pub mod NearLemmas
pub mod NearWorkLemmas
pub mod OpenLemmas
pub mod StepLemmas
pub mod TaskLemmas
pub mod WalkedLemmas
