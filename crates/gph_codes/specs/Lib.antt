pub mod Allowed
pub mod Digits
pub mod Laws
pub mod Masks
pub mod Spelling
pub mod Words
pub mod WordsLaw
