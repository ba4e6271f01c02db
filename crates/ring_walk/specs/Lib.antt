pub mod NearKept
pub mod NearPlanned
pub mod RingWalks
