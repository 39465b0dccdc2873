pub mod LoadEnds
pub mod LoadRuns
pub mod PlainLoads
pub mod Serving
