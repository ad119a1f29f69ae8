pub use Rattle.flat_events
pub use Rattle.flat_events.specs.flat_mmu
pub use Rattle.flat_state
pub use Rattle.flat_state.specs.signal_pages
pub use Rattle.rv32_exec
pub mod Readings
