pub mod RadiiLemmas
pub mod RowsLemmas
pub mod TableLemmas
