pub mod Unmatched
pub mod WellMatched
pub use Rattle.source_report.proofs as source_report
pub use Rattle.static_params.proofs as static_params
