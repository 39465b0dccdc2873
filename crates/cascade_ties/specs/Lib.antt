pub mod Kept
pub mod Ties
