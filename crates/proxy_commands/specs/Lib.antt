pub mod Commands
pub mod Helps
pub mod Keys
pub mod Parts
pub mod PlainWords
