pub mod Held
pub mod Lengths
pub mod ByTrees
pub use Rattle.separation.specs.call_groups as call_groups
pub use Rattle.separation.specs.cell_code as cell_code
pub use Rattle.separation.specs.code_rules as code_rules
pub use Rattle.separation.specs.fip_base as fip_base
pub use Rattle.separation.specs as separation
pub use Rattle.separation.specs.separation_kinds as separation_kinds
