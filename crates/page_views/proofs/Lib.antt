pub mod Tables
pub mod Indexing
pub mod Keeping
pub mod Parts
pub mod Spotting
