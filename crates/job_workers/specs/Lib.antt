pub mod Gatherings
pub mod HouseCalls
pub mod Sends
pub mod Stations
pub mod Tallies
pub mod Works
