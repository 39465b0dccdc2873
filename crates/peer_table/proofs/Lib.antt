pub mod Finds
pub mod PeerKeeping
pub mod PeerKeys
pub mod NextNamed
pub mod Sounds
pub mod PortUses
pub mod SoundTables
pub mod LastExpiries
pub mod NextOwned
mod Spending
pub mod Fellows
mod FewOpenings
mod OneRemote
pub mod OneMore
pub mod Views
pub mod Past
pub mod Leaving
