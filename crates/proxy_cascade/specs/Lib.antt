pub mod Cascades
pub mod FromClients
pub mod FromServers
pub mod Kept
pub mod Laws
pub mod Runs
