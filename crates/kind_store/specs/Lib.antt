pub use Rattle.owner_shelf
pub mod Kept
pub mod Rolls
pub mod Changes
pub mod Seated
