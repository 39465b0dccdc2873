pub mod CallLemmas
pub mod FaultLemmas
pub mod LawLemmas
pub mod ResultLemmas
pub mod StateLemmas
pub mod SumLemmas
pub mod KindLemmas
pub mod LoadLemmas
