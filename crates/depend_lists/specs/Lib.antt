pub mod Pairs
pub mod Indexes
pub mod Roomy
