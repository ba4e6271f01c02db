pub mod CostLemmas
pub mod SumLemmas
pub mod TextLemmas
