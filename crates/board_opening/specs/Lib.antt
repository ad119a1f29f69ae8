pub use Rattle.cache_board
pub use Rattle.cache_board.specs.board_calls
pub use Rattle.cache_board.specs.board_core
pub use Rattle.cache_board.specs.cached_machine
pub mod Openings
