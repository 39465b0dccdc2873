pub mod Happenings
pub mod Laws
pub mod Readings
