pub use Rattle.flat_machine
pub mod Runs
pub mod Pagers
pub mod Openings
