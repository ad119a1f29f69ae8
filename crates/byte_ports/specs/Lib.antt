pub mod Faults
pub mod Whole
pub mod MemSource
pub mod MemSink
