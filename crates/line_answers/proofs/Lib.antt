pub mod FlowLemmas
pub mod BlockLemmas
pub mod ReadLemmas
