pub mod PairLemmas
pub mod CountLemmas
pub mod EditLemmas
pub mod MirrorLemmas
pub mod PlaceLemmas
pub mod RunLemmas
pub mod ChildLemmas
pub mod RoomyLemmas
