pub mod Kept
pub mod Filled
