pub use Rattle.group_laws.specs.run_journal
pub use Rattle.group_laws.specs.flat_state
pub mod Fitting
pub mod Places
pub mod Last
