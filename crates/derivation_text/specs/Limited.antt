-- A text that was written, and the most bytes that may be.
use Rattle.std.specs.Prelude.{ℕ, List}

pub record Limited : Type 0 where
  pub bytes : List ℕ
  pub limit : ℕ
