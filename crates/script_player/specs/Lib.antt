pub mod Houses
pub mod Logs
pub mod Played
pub mod Playing
pub mod Reading
pub mod Scripts
pub mod Ways
pub mod Wholes
