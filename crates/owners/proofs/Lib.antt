mod KeyLemmas
mod Behind
mod Openings
pub mod Learning
mod Hearing
mod Opened
