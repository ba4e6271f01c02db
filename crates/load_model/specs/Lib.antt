pub mod Workload
pub mod Told
pub mod Asked
