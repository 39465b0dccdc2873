pub mod InMemory
pub mod Looks
pub mod Runs
