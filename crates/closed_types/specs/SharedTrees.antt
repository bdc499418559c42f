-- For the contracts of the code alone: closed trees that share their parts. Each is a head with the places of its
-- arguments, all of them before it. The tree at place 0 is int. So a tree takes as much memory as its head and its
-- arguments' places.
use Rattle.std.specs.Prelude.{◌≡◌, ℕ, suc, ◌+◌, ◌<◌, ◌^◌, Bool, ◌&&◌, bytes_eq, List, [], ◌∷◌, ◌++◌, length, map}
use Rattle.std.specs.Prelude.{get_or, Option, Some, None}
use Rattle.fip_base.specs.fip_language.Every.{Every, Among}
use Rattle.closed_types.specs.declared.closed.Head.{Head}
use Rattle.closed_types.specs.declared.closed.Passing.{Passing}
use Rattle.closed_types.specs.Closed.{Closed, Closeds, Int, Applied, NoClosed, MoreClosed, same_head}
use Rattle.closed_types.specs.Numbering.{Differ}

pub record Branch : Type 0 where
  pub head : Head
  pub arguments : List ℕ

-- the branches, and which functions are known to fit a signature or not
pub record Kept : Type 0 where
  pub branches : List Branch
  pub fits : List (Passing × Bool)

-- it is known whether this one fits
abbrev pub IsNoted : Passing → Bool → List (Passing × Bool) → Type 0
IsNoted p b es = Among {A = Passing × Bool} (p, b) es

abbrev pub tree_at : List Closed → ℕ → Closed
tree_at ts i = get_or ts i Int

abbrev pub trees_at : List Closed → List ℕ → Closeds
trees_at ts [] = NoClosed
trees_at ts (i ∷ is) = MoreClosed (tree_at ts i) (trees_at ts is)

abbrev pub tree_of : List Closed → Branch → Closed
tree_of ts b = Applied b.head (trees_at ts b.arguments)

-- the trees of branches that come after others
abbrev pub with_branches : List Closed → List Branch → List Closed
with_branches ts [] = ts
with_branches ts (b ∷ bs) = with_branches (ts ++ tree_of ts b ∷ []) bs

abbrev pub trees : List Branch → List Closed
trees = with_branches (Int ∷ [])

-- the arguments of each stand before it, where n stand before the first
abbrev pub AreBefore : ℕ → List Branch → Type 0
AreBefore n [] = Unit {0}
AreBefore n (b ∷ bs) = Every (λ i. i < n) b.arguments × AreBefore (suc n) bs

pub record AreShared (bs : List Branch) : Type 0 where
  pub before : AreBefore 1 bs
  pub differ : Differ (trees bs)
  pub few : length bs + 1 < 2 ^ 64

-- whether two branches are the same
abbrev pub same_branch : Branch → Branch → Bool
same_branch a b = same_head a.head b.head && bytes_eq a.arguments b.arguments

-- the trees at these places
abbrev pub all_at : List Closed → List ℕ → List Closed
all_at ts is = map (λ i. tree_at ts i) is

-- others came after
abbrev pub Grows : List Branch → List Branch → Type 0
Grows bs cs = (more : List Closed) × (trees cs ≡ trees bs ++ more)

abbrev pub IsWithin : List Branch → ℕ → Type 0
IsWithin bs i = i < length bs + 1

abbrev pub AreWithin : List Branch → List ℕ → Type 0
AreWithin bs is = Every (λ i. i < length bs + 1) is

abbrev pub NoneOrWithin : List Branch → Option ℕ → Type 0
NoneOrWithin bs None = Unit {0}
NoneOrWithin bs (Some i) = i < length bs + 1

-- these places came, at which these trees stand; others came after, and what is right of the trees stays
pub record Started (is_right : Kept → Type 0) (cs : List Closed) (k l : Kept) (is : List ℕ) : Type 0 where
  pub grows : Grows k.branches l.branches
  pub right : is_right l
  pub within : AreWithin l.branches is
  pub trees : all_at (trees l.branches) is ≡ cs
