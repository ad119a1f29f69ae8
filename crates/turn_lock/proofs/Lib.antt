pub mod Lists
pub mod Seats
pub mod Entering
pub mod Leaving
pub mod Passes
pub mod Ends
pub mod Calls
