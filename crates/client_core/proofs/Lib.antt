pub mod DueLemmas
pub mod EpochLemmas
pub mod EventLemmas
pub mod SlotLemmas
