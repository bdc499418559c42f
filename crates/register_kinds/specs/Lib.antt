pub mod State
pub mod Climbs
pub mod Kept
pub mod Steps
pub mod Arrivals
pub mod Takes
pub mod Sorted
