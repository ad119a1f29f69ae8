pub use Rattle.left_laws
pub mod Boards
pub mod Brought
pub mod Heards
pub mod Following
