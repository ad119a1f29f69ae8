pub use Rattle.slot_cache
pub mod Kernels
