pub use Rattle.image_decls
pub use Rattle.code_blocks
pub use Rattle.scenario_lines
pub use Rattle.code_blocks.specs.rv32_asm
pub mod Readings
pub mod Views
pub mod Scenarios
pub mod Openings
