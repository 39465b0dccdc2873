pub mod Answers
pub mod DiskFaults
pub mod HouseEffects
pub mod HouseWays
pub mod LineLaws
pub mod Rests
pub mod LoadEffects
pub mod LoadFindings
