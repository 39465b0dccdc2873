pub mod FieldTexts
pub mod Fields
pub mod Laws
pub mod Lines
pub mod Loads
pub mod Results
pub mod Words
