-- For private contracts alone: what is given up after a call.
--
-- After a call that was given Cons(1, Nil) for a lent parameter, the cell of this value is given up.
use Rattle.std.specs.Prelude.{◌≡◌, ℕ, ◌+◌, true, List, [], ◌∷◌, ◌++◌, Option, Some, None, if◌then◌else◌}
use Rattle.cell_store.specs.Cells.{Cells}
use Rattle.fip_language.specs.Core.{Name}
use Rattle.fip_language.specs.Store.{Placed, Parts, MoreParts, word_of, uses}
use Rattle.fip_language.specs.Table.{Table}
use Rattle.session_correctness.specs.Lodging.{Lodged, lodged_as}
use Rattle.session_lines.specs.session_semantics.Lines.{Given as Written, Held as Named, Fresh as New}
use Rattle.value_text.specs.Standing.{Stands}
use Rattle.fip_session.specs.declared.ready.Fresh.{Fresh}

-- the trees of the line's values
abbrev pub fresh_trees : List Written → Parts → List Placed
fresh_trees (New w ∷ gs) (MoreParts x xs) = x ∷ fresh_trees gs xs
fresh_trees (Named name ∷ gs) (MoreParts x xs) = fresh_trees gs xs
fresh_trees gs xs = []

-- The values have these trees, and those that are asked of stand.
abbrev pub AreStanding : (Fresh → Type 0) → Table → Cells → List Fresh → List Placed → Type 0
AreStanding Asked tb cs [] [] = Unit {0}
AreStanding Asked tb cs [] (x ∷ xs) = ⊥
AreStanding Asked tb cs (f ∷ fs) [] = ⊥
AreStanding Asked tb cs (f ∷ fs) (x ∷ xs) =
    (Asked f → Stands tb cs f.held.ty x) × (word_of x ≡ f.held.word) × AreStanding Asked tb cs fs xs

abbrev pub IsAny : Fresh → Type 0
IsAny f = Unit {0}

abbrev pub IsLent : Fresh → Type 0
IsLent f = f.is_lent ≡ true

-- how often trees use a cell, and those of values that are lent
abbrev pub all_uses : List Placed → ℕ → ℕ
all_uses [] q = 0
all_uses (x ∷ xs) q = uses q x + all_uses xs q

abbrev pub lent_of : List Fresh → List Placed → ℕ → ℕ
lent_of (f ∷ fs) (x ∷ xs) q = (if f.is_lent then uses q x else 0) + lent_of fs xs q
lent_of fs xs q = 0

-- how often what these names hold uses a cell
abbrev pub uses_in : Option Lodged → ℕ → ℕ
uses_in None q = 0
uses_in (Some l) q = uses q l.tree

abbrev pub named_uses : List Lodged → List Name → ℕ → ℕ
named_uses ls [] q = 0
named_uses ls (n ∷ ns) q = uses_in (lodged_as n ls) q + named_uses ls ns q
