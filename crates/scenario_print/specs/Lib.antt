pub use Rattle.scenario_reader
pub use Rattle.scenario_reader.specs.code_blocks
pub use Rattle.scenario_reader.specs.scenario_lines
pub use Rattle.journal_text
pub use Rattle.flat_state
pub use Rattle.scenario_reader.specs.rv32_asm
pub mod Texts
