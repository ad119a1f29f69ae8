pub mod Pages
pub mod Changes
pub mod Registers
pub mod Actions
pub mod Steps
pub mod Decoded
