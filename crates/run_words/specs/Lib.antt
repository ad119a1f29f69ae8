pub mod Ranges
pub mod Command
pub mod Options
pub mod Examples
pub mod Values
