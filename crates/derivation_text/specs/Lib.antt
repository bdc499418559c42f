pub mod ProofText
pub mod Limited
pub mod Machine
pub mod Reading
pub mod Writing
