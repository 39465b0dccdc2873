pub mod AnnounceLemmas
pub mod DispatchLemmas
pub mod DispatchingLemmas
pub mod LossLemmas
pub mod NoiseLemmas
pub mod PortLemmas
