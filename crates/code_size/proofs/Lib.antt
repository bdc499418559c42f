pub mod Examples
pub mod Room
pub use Rattle.match_cover.proofs as match_cover
