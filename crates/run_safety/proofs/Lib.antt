pub mod Headers
pub mod Trees
pub mod Stores
pub mod Literals
pub mod Alive
pub mod Starting
