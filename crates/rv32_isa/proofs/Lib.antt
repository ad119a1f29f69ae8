pub mod Formats
pub mod TableReads
pub mod TableSound
