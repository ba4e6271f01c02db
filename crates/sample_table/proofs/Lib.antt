pub mod CountLemmas
pub mod SumLemmas
pub mod TableLemmas
pub mod TrialLemmas
