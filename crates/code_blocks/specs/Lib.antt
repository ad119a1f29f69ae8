pub use Rattle.rv32_asm
pub mod Blocks
