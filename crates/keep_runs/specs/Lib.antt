pub mod Ends
pub mod Keeping
pub mod News
pub mod Steps
