pub mod FieldLemmas
pub mod FramingLemmas
pub mod PacketLemmas
pub mod ResponseLemmas
