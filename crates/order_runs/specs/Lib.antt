pub mod InMemory
pub mod OrderRuns
pub mod Orders
