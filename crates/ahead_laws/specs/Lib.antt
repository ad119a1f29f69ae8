pub mod Signalled
pub mod Addresses
