mod CopiesLemmas
mod LevelLemmas
