-- It serves the proof that lowered code is sound: what a clause leaves over in an fbip function, and others of its
-- match don't, is given up. What stays are trees that were there where the match began, and that it doesn't use up,
-- what the clause gives, and those credits that were there beyond what the match needs.
-- In  let y = match! xs { Nil -> a; Cons(x, t) -> b };  the first clause drops b, and the second one a and t, and frees
-- the cell.
use Rattle.std.specs.Prelude.{◌≡◌, ◌⊎◌, ◌<◌, ◌-◌, ℕ, Bool, true, false, List, [], Some, length, take}
use Rattle.tree_semantics.specs.fip_language.Every.{Among}
use Rattle.credit_check.specs.fip_trees.Tree.{Expression}
use Rattle.code_rules.specs.cell_code.Plain.{PlainFunction}
use Rattle.lowering_relation.specs.Known.{Known, register_of}
use Rattle.lowering_relation.specs.Values.{Setting}
use Rattle.lowering_relation.specs.Describing.{held_at, is_tree}
use Rattle.lowering_relation.specs.Credits.{of_size}
use Rattle.lowering_relation.specs.GivenUp.{GivesUp}
use Rattle.lowering_relation.specs.Uses.{used_in, need}

-- no variable of which register r is known is used up
abbrev pub IsUnused : Setting → Known → Expression → ℕ → Type 0
IsUnused st l e r = (x : ℕ) → register_of l.names (Some x) ≡ Some r → used_in st.instances x e ≡ false

-- e is the match, l was known where it began, and the clause gave its values to these registers
pub record LeftoverGone (st : Setting) (f : PlainFunction) (l : Known) (e : Expression) (rs : List ℕ) (at : ℕ)
    (k : Known) (end : ℕ) (left : Known) : Type 0 where
  pub steps : ℕ
  pub gives : GivesUp false f steps at k end left
  pub given : (r : ℕ) → Among r rs → is_tree (held_at k.held r) ≡ true → is_tree (held_at left.held r) ≡ true
  pub unused : (r : ℕ) → is_tree (held_at l.held r) ≡ true → IsUnused st l e r → is_tree (held_at k.held r) ≡ true →
      is_tree (held_at left.held r) ≡ true
  pub kept : (r : ℕ) → is_tree (held_at left.held r) ≡ true →
      Among r rs ⊎ ((is_tree (held_at l.held r) ≡ true) × IsUnused st l e r)
  pub credits : (n : ℕ) → 0 < n →
      of_size n left.credits ≡ take (length (of_size n l.credits) - need st n e) (of_size n k.credits)
  pub none : of_size 0 k.credits ≡ []

-- in fip nothing is left over
abbrev pub LeavesOver :
    Bool → Setting → PlainFunction → Known → Expression → List ℕ → ℕ → Known → ℕ → Known → Type 0
LeavesOver true st f l e rs at k end left = (end ≡ at) × (left ≡ k)
LeavesOver false st f l e rs at k end left = LeftoverGone st f l e rs at k end left
