mod LookLemmas
mod RunLemmas
