pub mod Safe
pub use Rattle.separation.specs.cell_code as cell_code
pub use Rattle.separation.specs.code_rules as code_rules
pub use Rattle.separation.specs.machine_semantics as machine_semantics
pub use Rattle.separation.specs as separation
