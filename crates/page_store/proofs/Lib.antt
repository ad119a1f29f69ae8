pub mod Slots
pub mod Meaning
pub mod Indexing
pub mod Whole
pub mod Changes
