pub mod Bodies
pub mod Sized
pub mod Agreement
pub mod Good
pub mod Mix
pub use Rattle.credit_check.specs as credit_check
pub use Rattle.fip_rules.specs as fip_rules
pub use Rattle.ownership_calculus.specs as ownership_calculus
