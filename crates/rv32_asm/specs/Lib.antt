pub mod Fields
pub mod Aims
pub mod Forms
pub mod Line
pub mod Block
pub mod Labels
pub mod Listing
