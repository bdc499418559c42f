pub mod Joined
pub mod Alike
pub mod Certain
pub mod Example
pub mod Empty
pub mod Evaluations
