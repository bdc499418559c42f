pub use Rattle.separation.specs as separation
