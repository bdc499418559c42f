pub mod Verified
pub mod Checked
pub mod Steps
pub mod Finding
pub mod Surveying
pub mod Survey
pub mod Releasing
pub use Rattle.call_groups.specs as call_groups
pub use Rattle.cell_code.specs as cell_code
pub use Rattle.code_rules.specs as code_rules
