pub mod Listed
pub mod Fitting
pub mod Bytes
pub mod Parts
pub mod Whole
