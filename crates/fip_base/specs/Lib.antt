pub mod CoreView
pub mod Refusal
pub mod SurfaceView
pub mod TableView
pub use Rattle.fip_language.specs as fip_language
