pub mod Pages
pub mod Padded
pub mod PageBytes
