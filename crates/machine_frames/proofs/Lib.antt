pub mod Laid
pub mod Viewed
