pub mod Missed
pub mod Signals
