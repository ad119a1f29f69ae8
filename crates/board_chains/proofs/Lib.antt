pub mod ListLemmas
pub mod RankLemmas
pub mod ChainLemmas
pub mod LoadLemmas
pub mod RowLemmas
pub mod WholeLemmas
