pub use Rattle.slot_cache
pub use Rattle.rv32_exec
pub mod Threads
