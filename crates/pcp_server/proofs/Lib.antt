mod CommandLemmas
mod ConfigLemmas
mod CountLemmas
mod DumpLemmas
mod LoadLemmas
mod LoadPromises
pub mod OpeningLemmas
mod PairLemmas
mod PlayLemmas
pub mod StatusLemmas
mod UpdateLemmas
