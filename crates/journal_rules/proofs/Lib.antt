pub mod Naming
pub mod Stepping
pub mod Completing
pub mod Represented
mod Among
