pub mod Groups
pub mod CallGraph
pub mod Stacks
pub mod Search
pub mod Raises
