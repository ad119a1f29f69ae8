pub mod Known
pub mod Looks
pub mod Missing
pub mod Standings
