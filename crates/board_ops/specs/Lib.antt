pub use Rattle.quantum.specs.page_views
pub use Rattle.quantum.specs.flat_laws
pub use Rattle.flat_state
pub use Rattle.quantum.specs.writeback_order
pub use Rattle.quantum.specs.depend_lists
pub use Rattle.flat_state.specs.signal_pages
