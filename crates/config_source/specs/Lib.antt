pub mod Causes
pub mod ConfigSources
