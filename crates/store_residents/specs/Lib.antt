pub use Rattle.desc_stores
pub use Rattle.resident_pairs
pub mod Slots
pub mod Victims
pub mod Frames
