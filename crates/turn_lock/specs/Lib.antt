pub mod Lengths
pub mod Places
pub mod Marks
pub mod Views
pub mod Rule
pub mod Tellings
pub mod Passes
pub mod Laws
