pub mod GatherLemmas
pub mod SendLemmas
pub mod SetLemmas
pub mod WorkLemmas
