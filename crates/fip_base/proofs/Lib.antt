pub mod SurfaceLayers
pub mod TableReads
pub use Rattle.fip_language.proofs as fip_language
