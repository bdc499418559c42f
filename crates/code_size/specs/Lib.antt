pub mod Places
pub mod Bounds
pub use Rattle.instance_semantics.specs as instance_semantics
pub use Rattle.match_cover.specs as match_cover
pub use Rattle.tail_groups.specs as tail_groups
