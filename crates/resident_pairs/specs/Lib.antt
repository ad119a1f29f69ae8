pub use Rattle.journal_laws
pub use Rattle.journal_laws.specs.run_journal
pub use Rattle.journal_laws.specs.flat_laws
pub mod Among
