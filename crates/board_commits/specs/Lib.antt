pub use Rattle.board_threads
pub use Rattle.board_threads.specs.board_checks
pub mod Tickets
pub mod Refusals
pub mod Commits
