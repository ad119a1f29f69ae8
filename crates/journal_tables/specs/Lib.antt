pub use Rattle.journal_rules.specs.journal_laws
pub use Rattle.journal_rules
pub use Rattle.group_laws
pub mod KindSlots
pub mod Locks
pub mod Whole
pub mod Tables
