pub mod Doors
pub mod Schedules
pub mod Updates
