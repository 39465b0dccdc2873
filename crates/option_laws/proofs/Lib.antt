pub mod AskedLemmas
pub mod FitLemmas
pub mod GrantReads
pub mod OctetLemmas
pub mod RefusalLemmas
