pub mod CallLemmas
pub mod PairLemmas
mod ReplayLemmas
mod StepLemmas
pub mod Within
mod WriteLemmas
