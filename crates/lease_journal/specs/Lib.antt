pub mod Beginnings
pub mod Compactions
pub mod Openings
pub mod Views
