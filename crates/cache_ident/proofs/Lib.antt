pub mod RollLemmas
pub mod Numbers
