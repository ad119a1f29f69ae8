pub mod Idents
pub mod Names
pub mod Rolls
pub mod Residents
