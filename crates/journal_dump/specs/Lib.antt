pub mod Dumps
pub mod Readings
pub mod Turns
