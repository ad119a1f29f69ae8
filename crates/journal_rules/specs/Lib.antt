pub use Rattle.journal_laws
pub mod Running
pub mod Relied
pub mod Touched
