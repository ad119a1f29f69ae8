pub use Rattle.shown_state.specs.row_store
pub use Rattle.shown_state.specs.kind_store
pub use Rattle.shown_state.specs.owner_shelf
pub mod Sets
pub mod SetsOf
