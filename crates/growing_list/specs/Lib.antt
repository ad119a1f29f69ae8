pub use Rattle.slot_cache
pub mod Shown
pub mod Index
