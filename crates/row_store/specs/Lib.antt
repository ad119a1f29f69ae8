pub use Rattle.kind_store
pub use Rattle.kind_store.specs.owner_shelf
pub use Rattle.slot_cache
pub use Rattle.signal_pages
pub mod Frames
pub mod Signals
pub mod Kept
pub mod Layout
