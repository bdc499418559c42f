pub mod Plain
pub mod Valued
pub mod Kept
pub mod OneTrace
pub mod Played
