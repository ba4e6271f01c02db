pub mod FitLemmas
pub mod FormLemmas
pub mod TraceLemmas
