pub mod CascadeRuns
pub mod Cascading
