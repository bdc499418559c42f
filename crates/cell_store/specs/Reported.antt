-- What a store is reported to do to its cells: to give the cell at a place a constructor and words, as many as it has
-- fields, or to release it.
-- A store that keeps what it is reported writes down two of these where Cons(1, Nil) at place 0 becomes Cons(2, Nil) and is
-- then released: Overwritten 0 1 (2 ∷ 0 ∷ []), and Released 0.
use Rattle.std.specs.Prelude.{ℕ, List}

pub data Reported : Type 0 where
  Overwritten : (place tag : ℕ) (fields : List ℕ) → Reported
  Released : (place : ℕ) → Reported
