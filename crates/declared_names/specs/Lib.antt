pub mod Order
pub mod Layout
