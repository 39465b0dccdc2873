pub mod Announcing
pub mod Dispatches
pub mod Dispatching
pub mod Noise
pub mod PortsAfter
