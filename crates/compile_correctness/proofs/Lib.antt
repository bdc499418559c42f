pub mod Views
pub mod Rooted
pub mod Files
pub mod Joined
pub mod Alike
pub mod Upgraded
pub mod Bytes
