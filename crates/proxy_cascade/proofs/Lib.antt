pub mod Deeds
pub mod KeptLemmas
pub mod RunLemmas
pub mod TieFacts
pub mod VerdictLemmas
