pub mod IndexLemmas
pub mod IterLemmas
pub mod NameLemmas
pub mod PadLemmas
pub mod SlotLemmas
