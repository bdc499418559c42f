-- For the contracts of the code alone: which functions are known to fit a signature, each with whether it does.
use Rattle.std.specs.Prelude.{◌≡◌, ℕ, ◌+◌, ◌<◌, Bool, true, List, Option, Some, None, slice_get, length}
use Rattle.fip_base.specs.fip_language.Core.{Static}
use Rattle.closed_types.specs.declared.closed.Head.TheVariants as H
use Rattle.closed_types.specs.declared.closed.Passing.{Passing}
use Rattle.reached_instances.specs.declared.source.Source as D
use Rattle.closed_types.specs.Closed.{Closed, Int, Applied}
use Rattle.closed_types.specs.Source.{Source, Instance, statics_at}
use Rattle.reached_instances.specs.SourceView.{source, IsLookedUp}
use Rattle.closed_types.specs.SharedTrees.{Kept, IsNoted, Branch, tree_at, trees, AreWithin}
use Rattle.closed_types.specs.Uses.{static_fits}

abbrev pub fits_parameter : Source → Instance → Option Static → Closed → Bool
fits_parameter s there None c = true
fits_parameter s there (Some x) c = static_fits s there x (Some c)

-- whether c fits a parameter of the function that is closed there
abbrev pub fits_there : Source → Closed → ℕ → Closed → Bool
fits_there s Int k c = true
fits_there s (Applied (H.«Type» n) cs) k c = true
fits_there s (Applied (H.Function f) cs) k c =
    fits_parameter s (record { function = f; given = cs }) (slice_get (statics_at s f) k) c

pub record IsKnown (s : Source) (bs : List Branch) (p : Passing) (b : Bool) : Type 0 where
  pub there : p.there < length bs + 1
  pub passed : p.passed < length bs + 1
  pub fits : fits_there s (tree_at (trees bs) p.there) p.parameter (tree_at (trees bs) p.passed) ≡ b

abbrev pub AreKnown : Source → Kept → Type 0
AreKnown s k = (p : Passing) (b : Bool) → IsNoted p b k.fits → IsKnown s k.branches p b

-- what is looked up and what is known are right
pub record IsRight (s : D.Source) (k : Kept) : Type 0 where
  pub looked_up : IsLookedUp s
  pub known : AreKnown (source s) k

-- and these are places of trees
pub record AreRoots (s : D.Source) (is ps : List ℕ) (k : Kept) : Type 0 where
  pub right : IsRight s k
  pub instances : AreWithin k.branches is
  pub passed : AreWithin k.branches ps
