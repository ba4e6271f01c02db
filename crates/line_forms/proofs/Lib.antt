pub mod CodeLemmas
pub mod FormLemmas
pub mod JoinedLemmas
pub mod WordLemmas
