pub mod TracedLemmas
