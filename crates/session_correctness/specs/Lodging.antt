-- What names hold as trees that lie in a store, and what of it a call is given.
--
-- Where a holds Cons(1, Nil) in the cell at 0 and b holds Cons(2, Nil) in the cell at 3, rev(a, Nil) is given the tree
-- at 0 and uses it up; the tree at 3 is kept.
use Rattle.std.specs.Prelude.{◌≡◌, ℕ, ◌+◌, true, false, List, [], ◌∷◌, ◌++◌, Option, Some, None, if◌then◌else◌}
use Rattle.tree_refinement.specs.fip_base.declared.plain.Param.{Param}
use Rattle.tree_refinement.specs.fip_language.Core.{Name}
use Rattle.tree_refinement.specs.fip_language.Declarations.{same_name}
use Rattle.tree_refinement.specs.fip_language.Every.{times}
use Rattle.tree_refinement.specs.fip_language.Store.{Placed, Parts, NoParts, MoreParts, value_of, places, uses}
use Rattle.tree_refinement.specs.fip_language.Table.{Table, is_scalar}
use Rattle.session_semantics.specs.Lines.{Given, Held, Fresh}
use Rattle.session_semantics.specs.Talk.{Holding, named_by}
use Rattle.session_semantics.specs.Typed.{IsValue}

-- a name with its tree, and the tree's type
pub record Lodged : Type 0 where
  pub name : Name
  pub type : ℕ
  pub tree : Placed

abbrev pub holding_of : Lodged → Holding
holding_of l = record { name = l.name; type = l.type; value = value_of l.tree }

abbrev pub lodged_as : Name → List Lodged → Option Lodged
lodged_as name [] = None
lodged_as name (l ∷ ls) = if same_name name l.name then Some l else lodged_as name ls

abbrev pub but : Name → List Lodged → List Lodged
but name [] = []
but name (l ∷ ls) = if same_name name l.name then but name ls else l ∷ but name ls

abbrev pub but_all : List Name → List Lodged → List Lodged
but_all [] ls = ls
but_all (n ∷ ns) ls = but_all ns (but n ls)

-- Each name occurs once.
abbrev pub AreDistinct : List Lodged → Type 0
AreDistinct [] = Unit {0}
AreDistinct (l ∷ ls) = (lodged_as l.name ls ≡ None) × AreDistinct ls

-- how often they use a cell, and the places of their cells
abbrev pub lodged_uses : List Lodged → ℕ → ℕ
lodged_uses [] q = 0
lodged_uses (l ∷ ls) q = uses q l.tree + lodged_uses ls q

abbrev pub lodged_places : List Lodged → List ℕ
lodged_places [] = []
lodged_places (l ∷ ls) = places l.tree ++ lodged_places ls

-- results under new names
abbrev pub lodge_all : List Name → List ℕ → Parts → List Lodged
lodge_all (n ∷ ns) (t ∷ ts) (MoreParts x xs) = record { name = n; type = t; tree = x } ∷ lodge_all ns ts xs
lodge_all ns ts xs = []

-- ---- what a call is given

-- The tree is that of a written value, or the one that a name holds, which wasn't given before where its type isn't
-- scalar.
abbrev pub IsTree : Table → List Lodged → List Name → Param → Given → Placed → Type 0
IsTree tb ls before q (Fresh w) x = IsValue tb q.ty w (value_of x)
IsTree tb ls before q (Held name) x = (l : Lodged) × (lodged_as name ls ≡ Some l) × (l.type ≡ q.ty) × (x ≡ l.tree)
    × (is_scalar tb q.ty ≡ false → times name before ≡ 0)

abbrev pub AreTrees : Table → List Lodged → List Name → List Param → List Given → Parts → Type 0
AreTrees tb ls before [] [] NoParts = Unit {0}
AreTrees tb ls before (q ∷ qs) (g ∷ gs) (MoreParts x xs) =
    IsTree tb ls before q g x × AreTrees tb ls (before ++ named_by tb q g) qs gs xs
AreTrees tb ls before qs gs xs = ⊥

-- the names that are given for parameters whose types aren't scalar
abbrev pub named_by_all : Table → List Param → List Given → List Name
named_by_all tb (q ∷ qs) (g ∷ gs) = named_by tb q g ++ named_by_all tb qs gs
named_by_all tb qs gs = []

-- how often the written values use a cell, and those of them that are borrowed
abbrev pub fresh_in : Given → Placed → ℕ → ℕ
fresh_in (Fresh w) x q = uses q x
fresh_in (Held name) x q = 0

abbrev pub fresh_uses : List Given → Parts → ℕ → ℕ
fresh_uses (g ∷ gs) (MoreParts x xs) q = fresh_in g x q + fresh_uses gs xs q
fresh_uses gs xs q = 0

abbrev pub lent_fresh_uses : List Param → List Given → Parts → ℕ → ℕ
lent_fresh_uses (p ∷ ps) (g ∷ gs) (MoreParts x xs) q =
    (if p.lent then fresh_in g x q else 0) + lent_fresh_uses ps gs xs q
lent_fresh_uses ps gs xs q = 0

-- how often the trees of names that are used up use a cell
abbrev pub named_in : Given → Placed → ℕ → ℕ
named_in (Fresh w) x q = 0
named_in (Held name) x q = uses q x

abbrev pub used_uses : List Param → List Given → Parts → ℕ → ℕ
used_uses (p ∷ ps) (g ∷ gs) (MoreParts x xs) q = (if p.lent then 0 else named_in g x q) + used_uses ps gs xs q
used_uses ps gs xs q = 0

-- A tree of a scalar type has no cell.
abbrev pub AreBare : Table → List Param → Parts → Type 0
AreBare tb [] xs = Unit {0}
AreBare tb (p ∷ ps) NoParts = Unit {0}
AreBare tb (p ∷ ps) (MoreParts x xs) = (is_scalar tb p.ty ≡ true → (q : ℕ) → uses q x ≡ 0) × AreBare tb ps xs
