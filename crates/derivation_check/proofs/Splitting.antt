-- Nodes that split over their parts.
use Rattle.std.proofs.Common.{◌≡◌, ℕ, zero, suc, ◌<◌, ◌≤◌, ◌+◌, ◌-◌, refl, sym, ap, ◌∙◌, subst, List, [], ◌∷◌, length, get_or, drop, Bool, true, false, arith}
use Rattle.fip_trees.specs.Sizes.{number}
use Rattle.fip_trees.specs.Tree as T
use Rattle.fip_trees.specs.TreeView as V
use Rattle.fip_trees.specs.declared.program.Argument as A
use Rattle.fip_rules.specs.World.{World, is_fip}
use Rattle.ownership_calculus.specs.Terms.{Item, Own, Credit, given, paid, charge}
use Rattle.derivation_trees.specs.declared.derivation.RuleName.{RuleName}
use Rattle.derivation_trees.specs.declared.derivation.RuleName.TheVariants as R
use Rattle.derivation_trees.specs.declared.derivation.Credit as D
use Rattle.derivation_trees.specs.declared.derivation.Node.{Node}
use Rattle.derivation_trees.specs.Trees.{Tree, Missing, Branch, Trees, NoTrees, MoreTrees}
use Rattle.derivation_check.specs.Owned.{amount, owned, root, roots, IsOwned, AreOwned, Under, Leaf, Splits}
use Rattle.derivation_check.specs.Places.{at, parts, node_with, following, Parted, Split}
use Rattle.derivation_check.specs.Scopes.{Known}
use Rattle.derivation_check.specs.Calculus.{Builds, DerivesValue, DerivesValues}
use Rattle.derivation_check.proofs.Numbers.{drop_item, drop_end}
use Rattle.derivation_check.proofs.Rows.{row_first, row_none}
pub use Rattle.ownership_calculus.proofs.Forth.{paid_own}

-- of a node's credits, n are left when these are taken
pub split_items : (d : ℕ) (ns : List Node) (j : ℕ) (m : Node) (n : ℕ → ℕ) (these : Item → ℕ) → ((x : ℕ) → these (Own x) ≡ 0) → ((k : ℕ) → amount k m.credits.items ≡ these (Credit k) + n k) → Parted d m.variables.items n (parts ns j m.parts) → Split d (node_with ns j m) these
split_items d ns j m n these z e p = (p.0, both)
  where
    both : (i : Item) → owned m.variables.items m.credits.items i ≡ these i + roots (parts ns j m.parts) i
    both (Own x) = let a = p.1 x in let b = z x in omega arith
    both (Credit k) = let a = p.2 k in let b = e k in omega arith

pub split_parted : (d : ℕ) (ns : List Node) (j : ℕ) (m : Node) (n : ℕ → ℕ) (these : Item → ℕ) → ((x : ℕ) → these (Own x) ≡ 0) → ((k : ℕ) → amount k m.credits.items ≡ these (Credit k) + n k) → Split d (node_with ns j m) these → Parted d m.variables.items n (parts ns j m.parts)
split_parted d ns j m n these z e s = (s.0, λ x. (let a = s.1 (Own x) in let b = z x in omega arith), λ k. (let a = s.1 (Credit k) in let b = e k in omega arith))

pub split_least : (d : ℕ) (ns : List Node) (j : ℕ) (m : Node) (these : Item → ℕ) → Split d (node_with ns j m) these → (k : ℕ) → these (Credit k) ≤ amount k m.credits.items
split_least d ns j m these s k = let a = s.1 (Credit k) in omega arith

-- the rule of a node
pub splits_sound : (fip : Bool) (d : ℕ) (r : RuleName) (these : Item → ℕ) (P : Trees → Type 0) (t : Tree) (ns : List Node) (j : ℕ) (n : Node) → n.rule ≡ r → Under fip d t (node_with ns j n) → Split d (node_with ns j n) these → P (parts ns j n.parts) → Splits fip d r these P t
splits_sound fip d r these P t ns j n e u s p = (n.variables.items, n.credits.items, parts ns j n.parts, subst (λ q. Under fip d t (Branch q n.variables.items n.credits.items (parts ns j n.parts))) e u, s.0, s.1, p)

pub splits_complete : (fip : Bool) (d : ℕ) (r : RuleName) (these : Item → ℕ) (P : Trees → Type 0) (t : Tree) (ns : List Node) (j : ℕ) (n : Node) → ((xs : List ℕ) (cs : List D.Credit) (ts : Trees) → Under fip d t (Branch r xs cs ts) → node_with ns j n ≡ Branch r xs cs ts) → Splits fip d r these P t → Split d (node_with ns j n) these × P (parts ns j n.parts)
splits_complete fip d r these P t ns j n o s =
    let e = o s.0 s.1 s.2 s.3 in
    (subst (λ u. Split d u these) (sym e) (s.4, s.5), subst P (sym (same e)) s.6)
  where
    same : {q : RuleName} {xs ys : List ℕ} {cs es : List D.Credit} {ts us : Trees} → Branch q xs cs ts ≡ Branch r ys es us → ts ≡ us
    same e = cc

-- ---- arguments

pub count_arguments : (as' : List A.Argument) → T.count (V.arguments as') ≡ length as'
count_arguments [] = refl
count_arguments (a ∷ as') = ap suc (count_arguments as')

pub values_more : (w : World) (vs : List Known) (d : ℕ) (ns : List Node) (i j n k : ℕ) (as' : List A.Argument) (a : A.Argument) → 0 < n → parts ns j (n - 1) ≡ parts ns (following ns i) (n - 1) → k < length as' → a ≡ get_or as' k a → DerivesValue w vs d (at ns i) (V.argument a) → DerivesValues w vs d (parts ns j (n - 1)) (V.arguments (drop (k + 1) as')) → DerivesValues w vs d (parts ns i n) (V.arguments (drop k as'))
values_more w vs d ns i j n k as' a l e m s h g = subst (λ ts. DerivesValues w vs d ts (V.arguments (drop k as'))) (sym (row_first ns i j n l e)) (subst (λ bs. DerivesValues w vs d (MoreTrees (at ns i) (parts ns j (n - 1))) (V.arguments bs)) (sym (drop_item as' k a a m s)) (h, g))

pub values_first : (w : World) (vs : List Known) (d : ℕ) (ns : List Node) (i j n k : ℕ) (as' : List A.Argument) (a : A.Argument) → 0 < n → parts ns j (n - 1) ≡ parts ns (following ns i) (n - 1) → k < length as' → a ≡ get_or as' k a → DerivesValues w vs d (parts ns i n) (V.arguments (drop k as')) → DerivesValue w vs d (at ns i) (V.argument a) × DerivesValues w vs d (parts ns j (n - 1)) (V.arguments (drop (k + 1) as'))
values_first w vs d ns i j n k as' a l e m s h = subst (λ bs. DerivesValues w vs d (MoreTrees (at ns i) (parts ns j (n - 1))) (V.arguments bs)) (drop_item as' k a a m s) (subst (λ ts. DerivesValues w vs d ts (V.arguments (drop k as'))) (row_first ns i j n l e) h)

pub values_none : (w : World) (vs : List Known) (d : ℕ) (ns : List Node) (i n k : ℕ) (as' : List A.Argument) (a : A.Argument) → n ≡ 0 → k < length as' → a ≡ get_or as' k a → DerivesValues w vs d (parts ns i n) (V.arguments (drop k as')) → ⊥
values_none w vs d ns i n k as' a e m s h = subst (λ bs. DerivesValues w vs d NoTrees (V.arguments bs)) (drop_item as' k a a m s) (subst (λ ts. DerivesValues w vs d ts (V.arguments (drop k as'))) (row_none ns i n (omega arith)) h)

pub values_end : (w : World) (vs : List Known) (d : ℕ) (ns : List Node) (i n k : ℕ) (as' : List A.Argument) → length as' ≤ k → n ≡ 0 → DerivesValues w vs d (parts ns i n) (V.arguments (drop k as'))
values_end w vs d ns i n k as' l e = subst (λ bs. DerivesValues w vs d (parts ns i n) (V.arguments bs)) (sym (drop_end as' k l)) (subst (λ ts. DerivesValues w vs d ts T.NoArguments) (sym (row_none ns i n (omega arith))) _)

pub values_over : (w : World) (vs : List Known) (d : ℕ) (ns : List Node) (i n k : ℕ) (as' : List A.Argument) → length as' ≤ k → DerivesValues w vs d (parts ns i n) (V.arguments (drop k as')) → n ≡ 0
values_over w vs d ns i zero k as' l h = refl
values_over w vs d ns i (suc n) k as' l h = absurd (subst (λ bs. DerivesValues w vs d (parts ns i (suc n)) (V.arguments bs)) (drop_end as' k l) h)

-- ATOM and REUSE
pub builds_atom : (w : World) (d : ℕ) (as' : List A.Argument) (P : Trees → Type 0) (t : Tree) → length as' ≡ 0 → Leaf (is_fip w.kind) d R.Atom t → Builds w d (T.count (V.arguments as')) P t
builds_atom w d as' P t e h = subst (λ n. Builds w d n P t) (sym (count_arguments as' ∙ e)) h

pub builds_leaf : (w : World) (d : ℕ) (as' : List A.Argument) (P : Trees → Type 0) (t : Tree) → length as' ≡ 0 → Builds w d (T.count (V.arguments as')) P t → Leaf (is_fip w.kind) d R.Atom t
builds_leaf w d as' P t e h = subst (λ n. Builds w d n P t) (count_arguments as' ∙ e) h

pub builds_reuse : (w : World) (d n : ℕ) (as' : List A.Argument) (P : Trees → Type 0) (t : Tree) → length as' ≡ n → (n ≡ 0 → ⊥) → Splits (is_fip w.kind) d R.Reuse (paid n) P t → Builds w d (T.count (V.arguments as')) P t
builds_reuse w d zero as' P t e z h = absurd (z refl)
builds_reuse w d (suc n) as' P t e z h = subst (λ k. Builds w d k P t) (sym (count_arguments as' ∙ e)) h

pub builds_splits : (w : World) (d n : ℕ) (as' : List A.Argument) (P : Trees → Type 0) (t : Tree) → length as' ≡ n → (n ≡ 0 → ⊥) → Builds w d (T.count (V.arguments as')) P t → Splits (is_fip w.kind) d R.Reuse (paid n) P t
builds_splits w d zero as' P t e z h = absurd (z refl)
builds_splits w d (suc n) as' P t e z h = subst (λ k. Builds w d k P t) (count_arguments as' ∙ e) h

pub ruleset splits_over = (split_items, split_parted, split_least, paid_own)
