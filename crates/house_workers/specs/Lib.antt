pub mod Crashes
pub mod HouseCallsOf
pub mod Laws
pub mod Lookups
pub mod OwnEntries
pub mod Promised
pub mod Raised
pub mod ServingAll
