pub mod NearPlanLemmas
pub mod RingWalkLemmas
