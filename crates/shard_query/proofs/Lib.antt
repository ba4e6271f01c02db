pub mod KeepLemmas
pub mod TaskLemmas
pub mod UnitLemmas
