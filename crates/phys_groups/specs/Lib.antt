pub mod Memory
pub mod Translation
pub mod Rows
