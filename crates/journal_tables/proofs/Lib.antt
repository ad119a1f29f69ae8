pub mod KindLemmas
pub mod Recounting
pub mod WholeLemmas
pub mod SlotLemmas
pub mod PairLemmas
pub mod LockLemmas
pub mod TableLemmas
pub mod Staying
