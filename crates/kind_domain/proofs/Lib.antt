pub mod Sets
pub mod Types
pub mod Places
pub mod Naming
pub mod LentLists
pub mod LinkLists
pub mod Heirs
pub mod Sights
pub mod Subsets
pub mod Pieces
pub mod SetsCompared
pub mod AskedMaps
pub use Rattle.code_rules.proofs as code_rules
pub use Rattle.fip_base.proofs.fip_language as fip_language
