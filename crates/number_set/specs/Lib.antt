pub mod First
pub mod Bits
pub mod Members
pub mod Layout
