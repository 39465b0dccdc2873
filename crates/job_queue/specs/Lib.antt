pub mod Noise
pub mod Queues
