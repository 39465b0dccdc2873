pub mod ThreeEntries
