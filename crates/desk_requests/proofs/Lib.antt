pub mod CommitLemmas
pub mod LookLemmas
pub mod CommitFrames
