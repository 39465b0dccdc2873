pub mod Commands
pub mod Helps
pub mod Options
pub mod Parses
pub mod Parts
pub mod PlainWords
pub mod Values
