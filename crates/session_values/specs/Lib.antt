pub mod Readable
pub mod Read
pub mod Made
