mod OrderLemmas
mod RouteLemmas
