pub mod FirstLemmas
pub mod WhyLaws
pub mod IdentifierLemmas
pub mod OwnerLemmas
pub mod FitLemmas
pub mod LoadLemmas
mod GivenLemmas
pub mod HoldLemmas
pub mod KeepLemmas
