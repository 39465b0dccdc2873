pub mod Clocks
pub mod Ears
pub mod Lanes
pub mod Links
pub mod OrderLines
pub mod Refusals
pub mod Relays
pub mod Routes
