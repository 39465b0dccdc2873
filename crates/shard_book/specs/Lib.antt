pub mod Addresses
pub mod Batches
pub mod Books
pub mod Insides
pub mod Keepings
pub mod KeptTexts
pub mod Openings
pub mod Settlings
