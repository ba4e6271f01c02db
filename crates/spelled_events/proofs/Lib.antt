pub mod WordsLemmas
pub mod SpelledLemmas
pub mod LengthLemmas
