pub mod Counts
pub mod Groups
pub mod Moves
pub mod Holding
pub mod Schedules
pub mod Openings
