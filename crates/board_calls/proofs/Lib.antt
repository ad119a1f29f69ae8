pub mod LoopLaws
pub mod GoodLaws
pub mod RowLaws
pub mod BadLaws
pub mod GroupLaws
pub mod TurnLaws
pub mod CompletionLaws
