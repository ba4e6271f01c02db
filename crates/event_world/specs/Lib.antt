pub mod TraceEnds
