pub mod SetsLemmas
