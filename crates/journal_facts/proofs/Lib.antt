pub mod Standing
pub mod Departing
pub mod Taking
