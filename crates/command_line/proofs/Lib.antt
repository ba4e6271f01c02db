pub mod WordLemmas
pub mod OptionLemmas
pub mod GivenLemmas
pub mod ConfigLemmas
pub mod LawLemmas
pub mod FirstLemmas
pub mod ListenLemmas
