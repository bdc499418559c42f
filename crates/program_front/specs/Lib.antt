pub mod Unmatched
pub use Rattle.cell_lower.specs as cell_lower
pub use Rattle.data_types.specs as data_types
pub use Rattle.source_report.specs as source_report
pub use Rattle.static_params.specs as static_params
pub use Rattle.tail_groups.specs as tail_groups
