pub mod Products
pub mod Atomics
