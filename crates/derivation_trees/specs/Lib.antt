pub mod Derivations
pub mod Trees
pub mod WholeTrees
pub mod Building
pub mod Parts
