pub mod CallLemmas
pub mod LinkLemmas
pub mod OverLemmas
pub mod RunLemmas
pub mod TickLemmas
pub mod WordLemmas
