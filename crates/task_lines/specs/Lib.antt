pub mod Called
pub mod Reading
pub mod Making
pub mod Listed
pub mod Started
pub use Rattle.session_lines.specs.instance_semantics as instance_semantics
pub use Rattle.session_lines.specs as session_lines
pub use Rattle.session_values.specs as session_values
