pub mod Following
pub mod ByName
pub mod CodeKinds
pub use Rattle.fip_base.proofs.fip_language as fip_language
pub use Rattle.fip_base.proofs as fip_base
