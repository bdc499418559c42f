pub mod Texts
pub mod Failures
pub mod Stages
pub mod Successes
pub use Rattle.fip_base.specs as fip_base
pub use Rattle.fip_base.specs.fip_language as fip_language
