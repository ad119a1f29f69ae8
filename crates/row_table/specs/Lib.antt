pub mod Pages
pub mod Rows
pub mod Stamps
pub mod SignalPages
pub mod Soundness
