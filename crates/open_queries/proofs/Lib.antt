mod WritingLemmas
mod PlaceLemmas
mod AnswerLemmas
pub mod BoundLemmas
mod KeptLemmas
mod GivingLemmas
mod QueryLemmas
mod TagLemmas
