pub mod BuildLemmas
pub mod EndLemmas
pub mod FollowLemmas
pub mod FrontLemmas
pub mod SwapLemmas
