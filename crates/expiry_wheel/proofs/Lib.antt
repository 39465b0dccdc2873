pub mod Order
pub mod Maps
pub mod Moments
pub mod Pairs
pub mod Next
pub mod Walks
pub mod Writes
pub mod LeastLists
pub mod BlockMoments
pub mod Wheels
mod PlainLemmas
