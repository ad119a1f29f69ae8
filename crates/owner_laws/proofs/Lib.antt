pub mod Naming
pub mod Tests
pub mod Spaces
pub mod Receivers
