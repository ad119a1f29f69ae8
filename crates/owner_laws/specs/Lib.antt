pub use Rattle.owners
pub use Rattle.answer_laws
pub use Rattle.answer_laws.specs.board_threads
pub mod Passing
