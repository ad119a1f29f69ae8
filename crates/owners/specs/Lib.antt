pub use Rattle.run_journal
pub use Rattle.flat_state
pub mod Keys
pub mod Known
pub mod Telling
pub mod Owning
