pub mod NameLemmas
pub mod TableLemmas
pub mod PairLemmas
pub mod SlotLemmas
pub mod RelyLemmas
