-- For the contracts of the code alone: what the places that the code answers stand for: none for none, and else the
-- trees that stand there.
use Rattle.std.specs.Prelude.{◌≡◌, ℕ, Bool, ◌&&◌, ◌||◌, List, [], ◌∷◌, ◌++◌, map, Option, Some, None, option_map}
use Rattle.std.specs.Prelude.{slice_get}
use Rattle.std.specs.declared.vec.Vec.{Vec}
use Rattle.std.specs.declared.alloc.Global.{Global}
use Rattle.fip_base.specs.fip_language.declared.Place.{Place}
use Rattle.fip_base.specs.fip_language.Core.{Name, Written, Result, SignatureParameter, Parameter, Static, TypeParameter}
use Rattle.fip_base.specs.fip_language.Core.{FunctionParameter}
use Rattle.fip_base.specs.fip_language.Every.{Every}
use Rattle.fip_trees.specs.declared.least.Violation.{Violation}
use Rattle.closed_types.specs.Closed.{Closed, Closeds, same_closed}
use Rattle.closed_types.specs.Source.{Source, Instance, is_scalar, statics_at}
use Rattle.closed_types.specs.Uses.{closed_function, closed_type, declared_type, misfit, same_mark, type_faults}
use Rattle.closed_types.specs.Uses.{use_faults, when}
use Rattle.closed_types.specs.SharedTrees.{Branch, tree_at, trees_at, trees, AreWithin, NoneOrWithin}

abbrev pub trees_of : List Closed → Option (Vec ℕ Global) → Option Closeds
trees_of ts None = None
trees_of ts (Some v) = Some (trees_at ts v.items)

abbrev pub with_place : List ℕ → Option ℕ → List ℕ
with_place is None = is
with_place is (Some i) = is ++ i ∷ []

abbrev pub AreWithinIfSome : List Branch → Option (Vec ℕ Global) → Type 0
AreWithinIfSome bs None = Unit {0}
AreWithinIfSome bs (Some v) = AreWithin bs v.items

-- the place of this tree, or none
pub record IsPlaceOf (bs : List Branch) (o : Option ℕ) (c : Option Closed) : Type 0 where
  pub within : NoneOrWithin bs o
  pub tree : option_map (tree_at (trees bs)) o ≡ c

-- the places of these trees, or none
pub record ArePlacesOf (bs : List Branch) (o : Option (Vec ℕ Global)) (cs : Option Closeds) : Type 0 where
  pub within : AreWithinIfSome bs o
  pub trees : trees_of (trees bs) o ≡ cs

-- ---- static arguments

abbrev pub all_trees : List Closed → List (Option ℕ) → List (Option Closed)
all_trees ts os = map (option_map (tree_at ts)) os

abbrev pub AreAllWithin : List Branch → List (Option ℕ) → Type 0
AreAllWithin bs os = Every (NoneOrWithin bs) os

abbrev pub argument_or_none : Option (Option ℕ) → Option ℕ
argument_or_none None = None
argument_or_none (Some o) = o

-- the static argument for a parameter
abbrev pub argument_of : Source → Instance → Option Static → Written → Option Closed
argument_of s here None w = None
argument_of s here (Some (TypeParameter n p)) w = closed_type s here w
argument_of s here (Some (FunctionParameter n p ps r)) w = closed_function s here w

abbrev pub faults_of_argument : Source → ℕ → Instance → Option Static → Written → List Violation
faults_of_argument s i here None w = []
faults_of_argument s i here (Some (TypeParameter n p)) w = type_faults s i here w
faults_of_argument s i here (Some (FunctionParameter n p ps r)) w = use_faults s i here w

-- what is given for a parameter, int in the place of functions
abbrev pub type_or_int : Static → Option ℕ → Option ℕ
type_or_int (TypeParameter n p) o = o
type_or_int (FunctionParameter n p ps r) o = Some 0

abbrev pub misfit_at : ℕ → Bool → Option Written → List Violation
misfit_at i b None = []
misfit_at i b (Some w) = when b (misfit i w)

abbrev pub is_same_parameter : Source → Instance → Instance → SignatureParameter → Parameter → Bool
is_same_parameter s there here p q =
    same_closed (declared_type s there p.type) (declared_type s here q.type) &&
    (same_mark p.lent q.lent || is_scalar s (declared_type s there p.type))

-- the parameter of a function that has this signature
abbrev pub AsksFor : Source → ℕ → ℕ → List SignatureParameter → Result → Type 0
AsksFor s f k ps r =
    (n : Name) × (p : Place) × (slice_get (statics_at s f) k ≡ Some (FunctionParameter n p ps r))
