-- For the contracts of the code alone: places that are put after others, and the trees that stand there.
use Rattle.std.specs.Prelude.{◌≡◌, ℕ, List, [], ◌∷◌, ◌++◌, ◌==◌, if◌then◌else◌}
use Rattle.closed_types.specs.Closed.{Closed}
use Rattle.closed_types.specs.SharedTrees.{AreWithin, Grows, Kept, all_at, trees}

-- After these places came others, at which these trees stand; other trees came after, and what fits is as it was.
pub record Put (k l : Kept) (is js : List ℕ) (cs : List Closed) : Type 0 where
  pub grows : Grows k.branches l.branches
  pub fits : l.fits ≡ k.fits
  pub within : AreWithin l.branches js
  pub trees : all_at (trees l.branches) js ≡ all_at (trees k.branches) is ++ cs

-- one more place, unless it is that of int
abbrev pub with_unless_int : List ℕ → ℕ → List ℕ
with_unless_int is i = if i == 0 then is else is ++ i ∷ []
