-- It serves the proofs on lowered code: something is said of the function of each instance of a program, one after
-- another. A plain instance has none.
-- Where instance 0 is fip, 1 plain and 2 fbip, function 0 is that of instance 0, and function 1 that of instance 2.
use Rattle.std.specs.Prelude.{◌≡◌, ◌+◌, ℕ, Bool, true, false, List, [], ◌∷◌, ◌++◌, Some, slice_get}
use Rattle.fip_trees.specs.Tree.{Instance}
use Rattle.cell_code.specs.declared.code.Function.{Function}
use Rattle.lower_parts.specs.lowering_relation.LoweredBodies.{function_of}

-- instances from number i on have functions from number n on, of each of which this is so
pub record HaveEach (P : ℕ → Instance → Function → Type 0) (ds : List Instance) (i n : ℕ) (fs : List Function) :
    Type 0 where
  pub by : (g f : ℕ) (d : Instance) (x : Function) → function_of ds g ≡ Some f → slice_get ds g ≡ Some d →
      slice_get fs (n + f) ≡ Some x → P (i + g) d x

-- what instance i adds: nothing where it is plain
abbrev pub AddsEach :
    (ℕ → Instance → Function → Type 0) → ℕ → Bool → Instance → List Function → List Function → Type 0
AddsEach P i true d fs gs = (f : Function) × (gs ≡ fs ++ f ∷ []) × P i d f
AddsEach P i false d fs gs = gs ≡ fs
