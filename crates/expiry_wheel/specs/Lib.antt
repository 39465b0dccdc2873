pub mod Blocks
pub mod Due
pub mod Firsts
pub mod Moments
pub mod Order
pub mod Pairs
