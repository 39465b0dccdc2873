pub mod Keys
pub mod Lists
pub mod Mores
pub mod OlderWords
pub mod Relaying
pub mod Splits
