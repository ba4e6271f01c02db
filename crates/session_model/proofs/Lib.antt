pub mod RunLemmas
pub mod LaterLemmas
pub mod ToldLemmas
pub mod SampleLemmas
