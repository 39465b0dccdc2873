pub mod AskLemmas
pub mod KeyLemmas
pub mod ListLemmas
pub mod MoreLemmas
pub mod OlderLemmas
pub mod PlainLemmas
pub mod TextLemmas
