pub use Rattle.journal_tables.specs.journal_rules
pub use Rattle.journal_tables
pub mod Leaving
