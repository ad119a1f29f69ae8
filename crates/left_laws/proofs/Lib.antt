pub mod EventsLeft
pub mod Falling
