pub mod Lines
pub mod Reading
pub mod Ranges
pub mod Answers
