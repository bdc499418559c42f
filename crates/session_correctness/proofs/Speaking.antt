-- What is held as trees, and what a call is given as trees, in the words of what a session replies.
use Rattle.std.proofs.Common.{◌≡◌, ◌∙◌, ℕ, Bool, true, false, List, [], ◌∷◌, ◌++◌, map, Some, option_map, refl, ap, if◌then◌else◌, arith}
use Rattle.tree_refinement.specs.fip_base.declared.plain.Param.{Param}
use Rattle.tree_refinement.specs.fip_language.Core.{Name}
use Rattle.tree_refinement.specs.fip_language.Declarations.{same_name}
use Rattle.tree_refinement.specs.fip_language.Store.{Parts, NoParts, MoreParts, value_of, values_of}
use Rattle.tree_refinement.specs.fip_language.Table.{Table}
use Rattle.session_semantics.specs.Lines.{Given, Held, Fresh}
use Rattle.session_semantics.specs.Talk.{held_as, without, without_all, live, named_by, AreTaken}
use Rattle.session_correctness.specs.Counted.{lodged_cells}
use Rattle.session_correctness.specs.Lodging.{Lodged, holding_of, lodged_as, but, but_all, AreTrees}

pub held_lodged : (name : Name) (ls : List Lodged) → held_as name (map holding_of ls) ≡ option_map holding_of (lodged_as name ls)
held_lodged name [] = refl
held_lodged name (l ∷ ls) = by (same_name name l.name) (held_lodged name ls)
  where
    by : (b : Bool) → held_as name (map holding_of ls) ≡ option_map holding_of (lodged_as name ls) → (if b then Some (holding_of l) else held_as name (map holding_of ls)) ≡ option_map holding_of (if b then Some l else lodged_as name ls)
    by true h = refl
    by false h = h

pub held_is : (name : Name) (l : Lodged) (ls : List Lodged) → lodged_as name ls ≡ Some l → held_as name (map holding_of ls) ≡ Some (holding_of l)
held_is name l ls e = held_lodged name ls ∙ ap (option_map holding_of) e

without_but : (name : Name) (ls : List Lodged) → without name (map holding_of ls) ≡ map holding_of (but name ls)
without_but name [] = refl
without_but name (l ∷ ls) = by (same_name name l.name) (without_but name ls)
  where
    by : (b : Bool) → without name (map holding_of ls) ≡ map holding_of (but name ls) → (if b then without name (map holding_of ls) else holding_of l ∷ without name (map holding_of ls)) ≡ map holding_of (if b then but name ls else l ∷ but name ls)
    by true h = h
    by false h = ap (λ hs. holding_of l ∷ hs) h

pub without_lodged : (names : List Name) (ls : List Lodged) → without_all names (map holding_of ls) ≡ map holding_of (but_all names ls)
without_lodged [] ls = refl
without_lodged (n ∷ ns) ls = ap (without_all ns) (without_but n ls) ∙ without_lodged ns (but n ls)

pub live_lodged : (k : ℕ) (ls : List Lodged) → live k (map holding_of ls) ≡ lodged_cells k ls
live_lodged k [] = refl
live_lodged k (l ∷ ls) = let r = live_lodged k ls in omega (arith, r)

-- what is given as trees is taken as their values
pub taken : (tb : Table) (ls : List Lodged) (before : List Name) (ps : List Param) (gs : List Given) (xs : Parts) → AreTrees tb ls before ps gs xs → AreTaken tb (map holding_of ls) before ps gs (values_of xs)
taken tb ls before [] [] NoParts h = tt
taken tb ls before [] [] (MoreParts x xs) h = absurd h
taken tb ls before [] (g ∷ gs) xs h = absurd h
taken tb ls before (p ∷ ps) [] xs h = absurd h
taken tb ls before (p ∷ ps) (g ∷ gs) NoParts h = absurd h
taken tb ls before (p ∷ ps) (Fresh w ∷ gs) (MoreParts x xs) h = (h.0, taken tb ls (before ++ named_by tb p (Fresh w)) ps gs xs h.1)
taken tb ls before (p ∷ ps) (Held name ∷ gs) (MoreParts x xs) h =
    let t = h.0 in
    ((holding_of t.0, held_is name t.0 ls t.1, t.2, ap value_of t.3, t.4), taken tb ls (before ++ named_by tb p (Held name)) ps gs xs h.1)
