pub mod FloatLemmas
pub mod ReplayLemmas
pub mod TurnLemmas
