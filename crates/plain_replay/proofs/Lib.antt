pub mod AgreeLemmas
pub mod EndPlaces
pub mod Listing
pub mod NewLeases
