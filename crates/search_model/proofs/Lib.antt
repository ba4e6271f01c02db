pub mod CostLemmas
pub mod HitLemmas
pub mod KeptLemmas
pub mod PostingLemmas
pub mod SameLemmas
pub mod StoredLemmas
