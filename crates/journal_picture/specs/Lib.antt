pub mod Lives
pub mod Pages
pub mod Pictures
