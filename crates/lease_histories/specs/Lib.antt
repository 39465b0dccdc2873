pub mod DatagramAsks
pub mod Entries
pub mod HouseHistories
pub mod Laws
pub mod Legal
pub mod PlainHouses
pub mod Promises
pub mod Routes
