pub mod Ports
pub mod Bits
pub mod Flags
pub mod Nodes
