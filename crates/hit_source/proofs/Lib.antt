pub mod DrainLemmas
pub mod ListedLemmas
pub mod SettleLemmas
pub mod WorkLemmas
