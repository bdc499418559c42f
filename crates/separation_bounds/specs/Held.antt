-- Held cells: those that begin somewhere and aren't released. They are those of owned registers, of credits, of
-- borrowed arguments, and the kept ones.
--
-- With Cons(2, Nil) in cell 0 and Cons(1, ..) in cell 1, of which cell 1 is released, cell 0 alone is held.
use Rattle.std.specs.Prelude.{◌≡◌, ℕ}
use Rattle.separation.specs.machine_semantics.Cells.{Store, there, released_at}

pub record IsHeld (s : Store) (p : ℕ) : Type 0 where
  pub there : there s p ≡ 1
  pub kept : released_at s p ≡ 0
