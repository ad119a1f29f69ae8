pub mod FrameLemmas
pub mod ListLemmas
pub mod SignalLemmas
pub mod ContentLemmas
pub mod SoundLemmas
pub mod NamedLemmas
