pub mod ChunkLemmas
pub mod GatherLemmas
pub mod JournalLemmas
pub mod LiveLemmas
pub mod OlderLemmas
