pub mod AlongLemmas
pub mod RuleLemmas
pub mod WayLemmas
