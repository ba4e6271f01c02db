pub mod LegalLemmas
pub mod OrderLemmas
pub mod PlainLemmas
pub mod RecodedLemmas
pub mod RowLemmas
pub mod ScanLemmas
pub mod ShardLemmas
