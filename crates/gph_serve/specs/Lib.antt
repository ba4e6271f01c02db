pub mod TopCall
pub mod Loads
pub mod TraceCall
pub mod BoardSession
