pub mod FloorLemmas
pub mod FrontLemmas
pub mod HeldLemmas
pub mod ListLemmas
pub mod PinLemmas
pub mod SourceLemmas
pub mod StartLemmas
