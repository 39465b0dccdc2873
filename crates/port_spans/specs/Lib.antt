pub mod Along
pub mod Runs
pub mod Kept
