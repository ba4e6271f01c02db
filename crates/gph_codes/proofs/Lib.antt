pub mod BitsLemmas
pub mod DigitsLemmas
pub mod DistanceLemmas
pub mod MaskLemmas
pub mod PartMaskLemmas
