mod ControlLemmas
pub mod KnownOctets
mod ReadLemmas
mod TakeLemmas
