pub mod RestLemmas
pub mod LookLemmas
pub mod CountLemmas
pub mod OrderLemmas
pub mod PickLemmas
