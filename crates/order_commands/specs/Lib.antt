pub mod OrderLines
pub mod OrderWords
