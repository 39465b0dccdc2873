pub mod PeerLists
pub mod Kept
pub mod Laws
