pub mod Contiguous
pub mod Faults
pub mod Grammar
pub mod Kept
pub mod Laid
pub mod Ranges
pub mod ReadOn
pub mod Text
