pub mod SourceView
pub mod KnownFits
pub use Rattle.closed_types.specs as closed_types
