pub mod Holding
pub mod Seeing
pub mod Parting
pub mod Stopping
pub mod Closing
