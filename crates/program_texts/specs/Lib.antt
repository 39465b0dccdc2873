pub mod Aims
pub mod Paths
