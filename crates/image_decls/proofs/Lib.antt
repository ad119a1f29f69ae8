pub mod Along
pub mod Sized
