pub mod IdentLemmas
pub mod FitLemmas
pub mod RowLemmas
pub mod ParentLemmas
pub mod PlainLemmas
