-- Nodes and their trees by places.
use Rattle.std.proofs.Common.{◌≡◌, ℕ, zero, suc, ◌<◌, ◌≤◌, ◌+◌, ◌-◌, refl, sym, ap, ◌∙◌, subst, List, [], ◌∷◌, length, map, Option, Some, None, arith}
use Rattle.std.specs.Prelude.{slice_get}
use Rattle.derivation_trees.specs.declared.derivation.Node.{Node}
use Rattle.derivation_trees.specs.Trees.{Tree, Missing, Branch, Trees, NoTrees, MoreTrees, Head, head, heads, span_of, row, tree_at}
use Rattle.derivation_trees.proofs.Places.{tree_is, tree_missing}
use Rattle.ownership_calculus.specs.Terms.{Item, Own, Credit, given}
use Rattle.derivation_check.specs.Owned.{IsOwned, AreOwned, root, roots, amount}
use Rattle.derivation_check.specs.Places.{at, parts, following, branch}
use Rattle.fip_base.proofs.fip_language.Facts.{get_none}
use Rattle.derivation_trees.proofs.Places.{more_same}

head_some : (ns : List Node) (i : ℕ) (n : Node) → slice_get ns i ≡ Some n → slice_get (heads ns) i ≡ Some (head n)
head_some [] i n e = absurd (cc)
head_some (m ∷ ns) zero n e = cc
head_some (m ∷ ns) (suc i) n e = head_some ns i n e

head_none : (ns : List Node) (i : ℕ) → slice_get ns i ≡ None → slice_get (heads ns) i ≡ None
head_none [] i e = refl
head_none (m ∷ ns) zero e = absurd (cc)
head_none (m ∷ ns) (suc i) e = head_none ns i e

pub branch_is : (ns : List Node) (i : ℕ) (n : Node) → slice_get ns i ≡ Some n → at ns i ≡ branch ns i n
branch_is ns i n e =
    let s : suc i ≡ i + 1 = omega arith in
    tree_is (heads ns) i (head n) (head_some ns i n e) ∙ ap (λ j. Branch n.rule n.variables.items n.credits.items (parts ns j n.parts)) s

pub none_is : (ns : List Node) (i : ℕ) → slice_get ns i ≡ None → at ns i ≡ Missing
none_is ns i e = tree_missing (heads ns) i (head_none ns i e)

pub after_some : (ns : List Node) (i : ℕ) (n : Node) → slice_get ns i ≡ Some n → following ns i ≡ i + n.span
after_some ns i n e = ap (λ o. i + span_of o) (head_some ns i n e)

pub after_none : (ns : List Node) (i : ℕ) → slice_get ns i ≡ None → following ns i ≡ i
after_none ns i e = let h : following ns i ≡ i + 0 = ap (λ o. i + span_of o) (head_none ns i e) in omega arith

-- after the list there is nothing
pub past_tree : (ns : List Node) (i j : ℕ) → length ns ≤ i → length ns ≤ j → at ns i ≡ at ns j
past_tree ns i j l k = none_is ns i (get_none ns i l) ∙ sym (none_is ns j (get_none ns j k))

past_next : (ns : List Node) (i : ℕ) → length ns ≤ i → following ns i ≡ i
past_next ns i l = after_none ns i (get_none ns i l)

pub past_row : (ns : List Node) (i j n : ℕ) → length ns ≤ i → length ns ≤ j → parts ns i n ≡ parts ns j n
past_row ns i j zero l k = refl
past_row ns i j (suc n) l k = more_same (past_tree ns i j l k) (ap (λ m. parts ns m n) (past_next ns i l) ∙ past_row ns i j n l k ∙ ap (λ m. parts ns m n) (sym (past_next ns j k)))

parts_more : (ns : List Node) (i m n : ℕ) → m ≡ suc n → parts ns i m ≡ MoreTrees (at ns i) (parts ns (following ns i) n)
parts_more ns i m n e = ap (parts ns i) e

-- one of a row of nodes, and the others
pub row_first : (ns : List Node) (i j n : ℕ) → 0 < n → parts ns j (n - 1) ≡ parts ns (following ns i) (n - 1) → parts ns i n ≡ MoreTrees (at ns i) (parts ns j (n - 1))
row_first ns i j n l e = parts_more ns i n (n - 1) (omega arith) ∙ ap (MoreTrees (at ns i)) (sym e)

pub row_none : (ns : List Node) (i n : ℕ) → n ≤ 0 → parts ns i n ≡ NoTrees
row_none ns i n l = let e : n ≡ 0 = omega arith in ap (parts ns i) e

pub owned_first : (ns : List Node) (d i j n : ℕ) → 0 < n → parts ns j (n - 1) ≡ parts ns (following ns i) (n - 1) → AreOwned d (parts ns i n) → IsOwned d (at ns i) × AreOwned d (parts ns j (n - 1))
owned_first ns d i j n l e h = subst (AreOwned d) (row_first ns i j n l e) h

pub owned_more : (ns : List Node) (d i j n : ℕ) → 0 < n → parts ns j (n - 1) ≡ parts ns (following ns i) (n - 1) → IsOwned d (at ns i) → AreOwned d (parts ns j (n - 1)) → AreOwned d (parts ns i n)
owned_more ns d i j n l e h g = subst (AreOwned d) (sym (row_first ns i j n l e)) (h, g)

pub owned_here : (ns : List Node) (d i n : ℕ) → 0 < n → AreOwned d (parts ns i n) → IsOwned d (at ns i)
owned_here ns d i n l h = (subst (AreOwned d) (parts_more ns i n (n - 1) (omega arith)) h).0

pub owned_none : (ns : List Node) (d i n : ℕ) → n ≤ 0 → AreOwned d (parts ns i n)
owned_none ns d i n l = subst (AreOwned d) (sym (row_none ns i n l)) _

pub branch_variables : (t : Tree) (ns : List Node) (i : ℕ) (n : Node) → t ≡ branch ns i n → (x : ℕ) → root t (Own x) ≡ given x n.variables.items
branch_variables t ns i n e x = ap (λ u. root u (Own x)) e

pub missing_variables : (t : Tree) → t ≡ Missing → (x : ℕ) → root t (Own x) ≡ 0
missing_variables t e x = ap (λ u. root u (Own x)) e

pub branch_credits : (t : Tree) (ns : List Node) (i : ℕ) (n : Node) → t ≡ branch ns i n → (k : ℕ) → root t (Credit k) ≡ amount k n.credits.items
branch_credits t ns i n e k = ap (λ u. root u (Credit k)) e

pub missing_credits : (t : Tree) → t ≡ Missing → (k : ℕ) → root t (Credit k) ≡ 0
missing_credits t e k = ap (λ u. root u (Credit k)) e

-- what a row has is what its first one and the others have
pub roots_first : (ns : List Node) (i j n : ℕ) → 0 < n → parts ns j (n - 1) ≡ parts ns (following ns i) (n - 1) → (x : Item) → roots (parts ns i n) x ≡ root (at ns i) x + roots (parts ns j (n - 1)) x
roots_first ns i j n l e x = ap (λ ts. roots ts x) (row_first ns i j n l e)

pub roots_none : (ns : List Node) (i n : ℕ) → n ≤ 0 → (x : Item) → roots (parts ns i n) x ≡ 0
roots_none ns i n l x = ap (λ ts. roots ts x) (row_none ns i n l)

pub ruleset node_there = (branch_is, none_is)

pub ruleset variables_there = (branch_variables, missing_variables)

pub ruleset credits_there = (branch_credits, missing_credits)

pub ruleset node_after = (after_some, after_none)

pub ruleset rows = (row_first, row_none)
