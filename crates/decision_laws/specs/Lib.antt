pub mod Addresses
pub mod Granting
