pub mod OnlyOne
pub mod PageLemmas
pub mod StampLemmas
pub mod SignalLemmas
pub mod ProperLemmas
pub mod SoundnessLemmas
