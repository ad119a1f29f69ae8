pub mod Markup
pub mod Elements
