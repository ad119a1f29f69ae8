pub mod Lists
pub mod Rule
pub mod Steps
pub mod Seats
pub mod Passes
pub mod Lending
