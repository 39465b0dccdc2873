pub mod Asks
pub mod Filters
pub mod Helps
pub mod Mores
pub mod Nonces
pub mod OlderWords
pub mod Splits
