pub mod BegunHouses
pub mod Counts
pub mod Leads
pub mod Parts
pub mod Passes
pub mod Rooms
pub mod Seats
pub mod Served
