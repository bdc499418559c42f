pub mod Fit
pub mod Counts
pub mod Back
pub mod Forth
pub mod Faithful
pub mod Whole
