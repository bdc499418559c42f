pub mod Plain
pub mod Runnable
pub mod Naming
pub mod CodeKinds
pub use Rattle.fip_base.specs as fip_base
pub use Rattle.fip_base.specs.fip_language as fip_language
