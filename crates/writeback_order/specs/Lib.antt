pub use Rattle.depend_lists
pub mod Order
pub mod Gathering
pub mod Scratches
