pub mod Fitting
pub mod Texts
pub mod Blocks
pub mod Seeded
