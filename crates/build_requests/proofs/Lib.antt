pub mod StartLemmas
pub mod SwapInLemmas
pub mod RebuildFrames
pub mod SearchLemmas
