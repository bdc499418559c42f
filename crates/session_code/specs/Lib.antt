pub mod Served
pub use Rattle.session_correctness.specs as session_correctness
pub use Rattle.session_lines.specs as session_lines
pub use Rattle.session_values.specs as session_values
