pub mod Marked
pub mod NamesApart
pub mod SoundRows
