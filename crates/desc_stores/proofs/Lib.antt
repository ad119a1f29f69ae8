pub mod CellLemmas
pub mod ListLemmas
pub mod KindLemmas
pub mod SoundLemmas
pub mod ChangeLemmas
pub mod RoomLemmas
pub mod PutLemmas
pub mod NamedLemmas
