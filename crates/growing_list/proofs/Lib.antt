pub mod EndLemmas
pub mod IndexLemmas
