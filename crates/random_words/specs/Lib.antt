pub mod ListEntropies
pub mod RandomWords
