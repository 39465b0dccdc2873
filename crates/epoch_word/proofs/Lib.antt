mod Steps
mod LawLemmas
