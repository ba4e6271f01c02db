pub mod PartDraftLemmas
pub mod PartsLemmas
