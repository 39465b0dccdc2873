pub mod MapLists
pub mod Kept
pub mod Laws
