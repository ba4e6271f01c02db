pub mod GrowthLemmas
pub mod EndingLemmas
pub mod FlowLemmas
pub mod BlockLemmas
pub mod ServeLemmas
pub mod BegunLemmas
