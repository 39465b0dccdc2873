pub mod AppendLaws
pub mod FieldLaws
pub mod FilterLoop
pub mod PartLaws
pub mod RecordLaws
