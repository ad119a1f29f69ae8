pub use Rattle.alone_run.specs.board_turns
pub mod Sharing
pub mod Following
pub mod Parts
pub mod Lengths
pub mod Stops
