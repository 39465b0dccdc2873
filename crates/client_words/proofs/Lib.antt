pub mod AskLemmas
pub mod FilterLemmas
pub mod ListLemmas
pub mod MoreLemmas
pub mod OlderLemmas
