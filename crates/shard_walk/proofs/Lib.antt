pub mod KeepLemmas
pub mod PlanLemmas
pub mod StartLemmas
pub mod WalkLemmas
