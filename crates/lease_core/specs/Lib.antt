pub mod Answers
pub mod Chosen
pub mod ChosenPeer
pub mod Decide
pub mod DecideMap
pub mod DecidePeer
pub mod Laws
