pub mod Fields
pub mod Framing
pub mod Packets
pub mod Replies
pub mod Requests
pub mod Responses
