mod AnswerLemmas
mod HandLemmas
pub mod ServingLemmas
pub mod UpdateLemmas
