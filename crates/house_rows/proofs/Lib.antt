pub mod ThreeLemmas
