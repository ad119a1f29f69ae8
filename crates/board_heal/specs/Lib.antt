pub mod Refusals
pub mod Loads
pub mod Healed
pub mod Promise
