mod Found
mod Runs
pub mod Taken
mod Values
mod Within
