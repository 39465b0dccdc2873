pub mod Clients
pub mod Dues
pub mod EpochTests
pub mod EventFolds
pub mod Meanings
pub mod Waits
pub mod Wants
