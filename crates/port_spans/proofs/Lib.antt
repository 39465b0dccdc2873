pub mod RunLemmas
pub mod SpotLemmas
pub mod CutLemmas
mod ChangeLemmas
mod PartLemmas
