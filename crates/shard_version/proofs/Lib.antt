mod PlaceLemmas
mod SumLemmas
pub mod PartLemmas
mod HistoryLemmas
mod KeptLemmas
mod BucketLemmas
mod SharedLemmas
mod HeadLemmas
mod EntryLemmas
mod RelaidLemmas
pub mod MaskLemmas
