pub use Rattle.flat_state
pub mod Readings
pub mod Looking
pub mod Settling
