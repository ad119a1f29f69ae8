pub mod Answered
pub mod Opened
pub mod Accepted
