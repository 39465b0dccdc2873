pub mod Asked
pub mod Fitting
pub mod Grants
pub mod Octets
pub mod Refusals
