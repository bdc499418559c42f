pub mod Cells
pub mod Flat
pub mod Free
pub mod StoredCells
pub mod Made
pub mod Reported
pub mod Marks
pub mod Kept
