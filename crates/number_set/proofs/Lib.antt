mod BitLemmas
mod WordLemmas
mod SetLemmas
