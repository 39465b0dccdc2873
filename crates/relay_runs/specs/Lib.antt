pub mod Ends
pub mod Handing
pub mod Machines
pub mod Sending
pub mod Statuses
pub mod Steps
pub mod Turns
