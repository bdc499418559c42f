pub mod Named
pub mod Declared
pub mod Means
pub use Rattle.source_report.specs.data_types as data_types
pub use Rattle.source_report.specs.fip_grammar as fip_grammar
pub use Rattle.source_report.specs.reached_instances as reached_instances
pub use Rattle.source_report.specs as source_report
pub use Rattle.source_report.specs.static_params as static_params
