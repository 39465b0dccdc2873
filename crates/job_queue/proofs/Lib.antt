pub mod MarkLemmas
pub mod QueueSteps
