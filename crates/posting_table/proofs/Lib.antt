pub mod BucketLemmas
pub mod ListsLemmas
pub mod PostingsLemmas
