pub mod Goes
pub mod Whole
pub mod Kernels
pub mod OpeningLaws
