pub mod Staying
pub mod Loading
pub mod Room
