pub mod RecordReading
pub mod RecordTexts
pub mod Values
