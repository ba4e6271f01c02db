pub mod Faults
pub mod GivingOut
pub mod Objects
