pub mod TestLemmas
pub mod SettleLemmas
pub mod IdentLemmas
pub mod FaultLemmas
pub mod CandidateLemmas
pub mod PostLemmas
pub mod NeverLemmas
pub mod SignalLemmas
