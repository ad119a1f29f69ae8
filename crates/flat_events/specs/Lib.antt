pub use Rattle.flat_mmu
pub mod Readings
pub mod Asked
