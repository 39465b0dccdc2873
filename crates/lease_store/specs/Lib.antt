pub mod HeldRecords
pub mod LeaseTerms
pub mod Lookups
pub mod OwnerOrder
pub mod Picks
pub mod Stores
