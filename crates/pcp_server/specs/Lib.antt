pub mod Dumped
pub mod Loaded
pub mod Opened
pub mod Outsides
pub mod Played
pub mod Promises
pub mod Statuses
