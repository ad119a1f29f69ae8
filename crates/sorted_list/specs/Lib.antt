pub mod Fixed
pub mod Sorted
pub mod Trees
pub mod Layout
