pub mod BallLemmas
pub mod DigitLemmas
pub mod FlipLemmas
pub mod FlippedLemmas
mod NextLemmas
mod OrderLemmas
pub mod SumLemmas
