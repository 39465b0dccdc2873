pub mod Beginnings
pub mod Endings
pub mod Findings
pub mod HeldCalls
pub mod HouseCalls
pub mod Laws
pub mod Seats
pub mod Turned
