pub mod Contents
pub mod Kept
pub mod KeptParts
pub mod KeptRows
pub mod Masked
pub mod Prefixes
pub mod Relaid
pub mod Tables
