pub use Rattle.elf_image
pub use Rattle.flat_state
pub mod Declarations
