pub mod Showing
pub mod Owning
pub mod Keeping
pub mod Loading
pub mod Plain
pub mod Calling
pub mod Telling
pub mod Filling
