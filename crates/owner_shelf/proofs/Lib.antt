pub mod NameLemmas
pub mod SoundLemmas
pub mod RowLaws
pub mod UpdateLemmas
