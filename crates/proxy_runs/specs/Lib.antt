pub mod Answers
pub mod Proxying
pub mod ProxyRuns
