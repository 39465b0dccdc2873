pub mod LaneLemmas
pub mod SetLemmas
