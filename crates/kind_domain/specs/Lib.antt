pub mod Views
pub mod Owners
pub mod Leading
pub mod Scalars
pub mod Rising
pub mod Busy
pub mod LabelSets
pub mod Sights
pub use Rattle.cell_code.specs as cell_code
pub use Rattle.code_rules.specs as code_rules
pub use Rattle.cell_code.specs.fip_base as fip_base
pub use Rattle.cell_code.specs.fip_language as fip_language
