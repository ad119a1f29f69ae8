pub mod Actions
pub mod Calls
