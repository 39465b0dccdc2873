pub mod SiftLemmas
