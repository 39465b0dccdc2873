pub mod LaneRuns
pub mod LaneSets
