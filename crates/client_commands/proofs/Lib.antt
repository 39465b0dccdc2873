pub mod CommandLemmas
pub mod PartLemmas
pub mod PlainEnds
pub mod PlainLemmas
pub mod PlainWalks
