mod RunLemmas
mod ServingLemmas
