mod Sums
mod Fronts
mod Moves
mod Steps
mod Numbers
mod Marked
mod LawLemmas
