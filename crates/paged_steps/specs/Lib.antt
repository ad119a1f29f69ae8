pub use Rattle.ahead_laws
pub use Rattle.memory_laws
pub mod Pages
pub mod Aheads
pub mod Marks
pub mod Nexts
pub mod Orders
pub mod Knowing
