pub mod HandLemmas
pub mod TurnLemmas
