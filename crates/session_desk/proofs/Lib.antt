pub mod CallLemmas
pub mod ShardLemmas
pub mod SoloLemmas
pub mod StartLemmas
pub mod SwapLemmas
