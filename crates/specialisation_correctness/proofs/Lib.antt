pub mod Lookups
pub mod Places
pub mod Arguments
pub mod Instances
pub mod Specialised
pub mod SpeltClauses
pub mod CoreClauses
pub mod Meant
pub use Rattle.source_report.proofs.fip_grammar as fip_grammar
pub use Rattle.source_report.proofs as source_report
pub use Rattle.source_report.proofs.static_params as static_params
