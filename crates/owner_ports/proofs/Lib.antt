pub mod Completing
pub mod Gaining
