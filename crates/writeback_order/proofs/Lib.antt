pub mod DistinctLemmas
pub mod MarkLemmas
pub mod GatherLemmas
pub mod OrderLemmas
