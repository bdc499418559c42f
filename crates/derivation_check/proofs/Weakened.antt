-- Nodes below those that weaken.
use Rattle.std.proofs.Common.{◌≡◌, ℕ, zero, suc, ◌≤◌, ◌+◌, ◌⊎◌, inl, inr, refl, sym, ap, ◌∙◌, subst, List, [], ◌∷◌, Bool, true, false, arith}
use Rattle.ownership_calculus.specs.Terms.{Item, Own, Credit, given}
use Rattle.derivation_trees.specs.declared.derivation.RuleName.{RuleName}
use Rattle.derivation_trees.specs.declared.derivation.Credit as D
use Rattle.derivation_trees.specs.declared.derivation.Node.{Node}
use Rattle.derivation_trees.specs.Trees.{Tree, Missing, Branch, Trees, NoTrees, MoreTrees}
use Rattle.derivation_check.specs.Owned.{amount, is_weaken, owned, root, IsOwned, Under, UnderPart, Leaf}
use Rattle.derivation_check.specs.Places.{at, parts, branch, node_with, following, weakens, Leaves}
pub use Rattle.derivation_check.proofs.Passing.{no_row as none_parts}

pub under_self : (fip : Bool) (d : ℕ) (t : Tree) (r : RuleName) (xs : List ℕ) (cs : List D.Credit) (ts : Trees) → t ≡ Branch r xs cs ts → is_weaken r ≡ false → Under fip d t t
under_self fip d t r xs cs ts e w = subst (λ u. Under fip d u u) (sym e) (inl (w, refl))

-- a node that doesn't weaken stands for itself
pub under_only : (fip : Bool) (d : ℕ) (r : RuleName) (xs : List ℕ) (cs : List D.Credit) (ts : Trees) (u : Tree) → is_weaken r ≡ false → Under fip d (Branch r xs cs ts) u → Branch r xs cs ts ≡ u
under_only fip d r xs cs ts u w (inl h) = h.1
under_only fip d r xs cs ts u w (inr h) = absurd (let e = h.0 in cc)

pub under_step : (fip : Bool) (d : ℕ) (t p u : Tree) → Leaves fip d t p → Under fip d p u → Under fip d t u
under_step fip d Missing p u l h = absurd l
under_step fip d (Branch r xs cs ts) p u l h = inr (l.0, l.1, subst (λ ps. UnderPart fip d xs cs ps u) (sym l.2) (l.3, l.4, h))

pub under_back : (fip : Bool) (d : ℕ) (r : RuleName) (xs : List ℕ) (cs : List D.Credit) (ts : Trees) (u : Tree) → is_weaken r ≡ true → weakens u ≡ false → Under fip d (Branch r xs cs ts) u → (p : Tree) × Leaves fip d (Branch r xs cs ts) p × Under fip d p u
under_back fip d r xs cs ts u w n (inl h) = absurd (let e = ap weakens h.1 in cc)
under_back fip d r xs cs NoTrees u w n (inr h) = absurd h.2
under_back fip d r xs cs (MoreTrees t NoTrees) u w n (inr h) = (t, (h.0, h.1, refl, h.2.0, h.2.1), h.2.2)
under_back fip d r xs cs (MoreTrees t (MoreTrees s ts)) u w n (inr h) = absurd h.2

-- what is below nodes that weaken has variables and credits that rise, too
pub under_owned : (fip : Bool) (d : ℕ) (t u : Tree) → IsOwned d t → Under fip d t u → IsOwned d u
under_owned fip d Missing u o h = absurd h
under_owned fip d (Branch r xs cs ts) u o (inl h) = subst (IsOwned d) h.1 o
under_owned fip d (Branch r xs cs NoTrees) u o (inr h) = absurd h.2
under_owned fip d (Branch r xs cs (MoreTrees t NoTrees)) u o (inr h) = under_owned fip d t u h.2.0 h.2.2
under_owned fip d (Branch r xs cs (MoreTrees t (MoreTrees s ts))) u o (inr h) = absurd h.2

-- a node at a place with one part
pub leaves_at : (fip : Bool) (d : ℕ) (ns : List Node) (i : ℕ) (n : Node) → is_weaken n.rule ≡ true → fip ≡ false → n.parts ≡ 1 → IsOwned d (at ns (i + 1)) → ((x : Item) → root (at ns (i + 1)) x ≤ owned n.variables.items n.credits.items x) → Leaves fip d (branch ns i n) (at ns (i + 1))
leaves_at fip d ns i n w f e o h = (w, f, ap (parts ns (i + 1)) e, o, h)

pub more_first : {t u : Tree} {ts us : Trees} → MoreTrees t ts ≡ MoreTrees u us → t ≡ u
more_first e = cc

one_part : (ns : List Node) (j m : ℕ) (t : Tree) → parts ns j m ≡ MoreTrees t NoTrees → (m ≡ 1) × (t ≡ at ns j)
one_part ns j zero t e = absurd (cc)
one_part ns j (suc zero) t e = (refl, sym (more_first e))
one_part ns j (suc (suc m)) t e = absurd (cc)

pub leaves_back : (fip : Bool) (d : ℕ) (ns : List Node) (i : ℕ) (n : Node) (t : Tree) → Leaves fip d (branch ns i n) t → (fip ≡ false) × (n.parts ≡ 1) × (t ≡ at ns (i + 1)) × IsOwned d (at ns (i + 1)) × ((x : Item) → root (at ns (i + 1)) x ≤ owned n.variables.items n.credits.items x)
leaves_back fip d ns i n t l =
    let o = one_part ns (i + 1) n.parts t l.2 in
    (l.1, o.0, o.1, subst (IsOwned d) o.1 l.3, subst (λ u. (x : Item) → root u x ≤ owned n.variables.items n.credits.items x) o.1 l.4)

-- where a walk down is
pub record BelowAt (fip : Bool) (d : ℕ) (ns : List Node) (i j : ℕ) : Type 0 where
  pub owned : IsOwned d (at ns j)
  pub up : (u : Tree) → Under fip d (at ns j) u → Under fip d (at ns i) u
  pub down : (u : Tree) → weakens u ≡ false → Under fip d (at ns i) u → Under fip d (at ns j) u

pub below_start : (fip : Bool) (d : ℕ) (ns : List Node) (i : ℕ) → IsOwned d (at ns i) → BelowAt fip d ns i i
below_start fip d ns i o = record { owned = o; up = λ u h. h; down = λ u w h. h }

pub below_step : (fip : Bool) (d : ℕ) (ns : List Node) (i j : ℕ) (n : Node) → BelowAt fip d ns i j → at ns j ≡ branch ns j n → is_weaken n.rule ≡ true → fip ≡ false → n.parts ≡ 1 → IsOwned d (at ns (j + 1)) → ((x : Item) → root (at ns (j + 1)) x ≤ owned n.variables.items n.credits.items x) → BelowAt fip d ns i (j + 1)
below_step fip d ns i j n b e w f p o h = record {
  owned = o;
  up = λ u g. b.up u (under_step fip d (at ns j) (at ns (j + 1)) u (subst (λ t. Leaves fip d t (at ns (j + 1))) (sym e) (leaves_at fip d ns j n w f p o h)) g);
  down = λ u v g.
      let k = under_back fip d n.rule n.variables.items n.credits.items (parts ns (j + 1) n.parts) u w v (subst (λ t. Under fip d t u) e (b.down u v g)) in
      subst (λ t. Under fip d t u) (leaves_back fip d ns j n k.0 k.1).2 k.2;
}

pub below_refused : (fip : Bool) (d : ℕ) (ns : List Node) (i j : ℕ) (n : Node) → BelowAt fip d ns i j → at ns j ≡ branch ns j n → is_weaken n.rule ≡ true → ((fip ≡ false) → n.parts ≡ 1 → IsOwned d (at ns (j + 1)) → ((x : Item) → root (at ns (j + 1)) x ≤ owned n.variables.items n.credits.items x) → ⊥) → (u : Tree) → weakens u ≡ false → Under fip d (at ns i) u → ⊥
below_refused fip d ns i j n b e w r u v g =
    let k = under_back fip d n.rule n.variables.items n.credits.items (parts ns (j + 1) n.parts) u w v (subst (λ t. Under fip d t u) e (b.down u v g)) in
    let l = leaves_back fip d ns j n k.0 k.1 in
    r l.0 l.1 l.3 l.4

pub below_fip : (fip : Bool) (d : ℕ) (ns : List Node) (i j : ℕ) (n : Node) → BelowAt fip d ns i j → at ns j ≡ branch ns j n → is_weaken n.rule ≡ true → fip ≡ true → (u : Tree) → weakens u ≡ false → Under fip d (at ns i) u → ⊥
below_fip fip d ns i j n b e w f u v g = below_refused fip d ns i j n b e w (λ h p o x. cc) u v g

pub below_found : (fip : Bool) (d : ℕ) (ns : List Node) (i j : ℕ) (n : Node) → BelowAt fip d ns i j → at ns j ≡ branch ns j n → is_weaken n.rule ≡ false → (weakens (at ns j) ≡ false) × IsOwned d (at ns j) × Under fip d (at ns i) (at ns j)
below_found fip d ns i j n b e w = (ap weakens e ∙ w, b.owned, b.up (at ns j) (under_self fip d (at ns j) n.rule n.variables.items n.credits.items (parts ns (j + 1) n.parts) e w))

pub below_only : (fip : Bool) (d : ℕ) (ns : List Node) (i j : ℕ) (n : Node) → BelowAt fip d ns i j → at ns j ≡ branch ns j n → is_weaken n.rule ≡ false → (u : Tree) → weakens u ≡ false → Under fip d (at ns i) u → at ns j ≡ u
below_only fip d ns i j n b e w u v g = e ∙ under_only fip d n.rule n.variables.items n.credits.items (parts ns (j + 1) n.parts) u w (subst (λ t. Under fip d t u) e (b.down u v g))

pub below_missing : (fip : Bool) (d : ℕ) (ns : List Node) (i j : ℕ) → BelowAt fip d ns i j → at ns j ≡ Missing → ⊥
below_missing fip d ns i j b e = subst (IsOwned d) e b.owned

-- ---- a node's parts of data

pub rule_same : {r s : RuleName} {xs ys : List ℕ} {cs es : List D.Credit} {ts us : Trees} → Branch r xs cs ts ≡ Branch s ys es us → r ≡ s
rule_same e = cc

pub variables_same : {r s : RuleName} {xs ys : List ℕ} {cs es : List D.Credit} {ts us : Trees} → Branch r xs cs ts ≡ Branch s ys es us → xs ≡ ys
variables_same e = cc

pub credits_same : {r s : RuleName} {xs ys : List ℕ} {cs es : List D.Credit} {ts us : Trees} → Branch r xs cs ts ≡ Branch s ys es us → cs ≡ es
credits_same e = cc

pub parts_same : {r s : RuleName} {xs ys : List ℕ} {cs es : List D.Credit} {ts us : Trees} → Branch r xs cs ts ≡ Branch s ys es us → ts ≡ us
parts_same e = cc

pub branch_same : {r s : RuleName} {xs ys : List ℕ} {cs es : List D.Credit} {ts us : Trees} → r ≡ s → xs ≡ ys → cs ≡ es → ts ≡ us → Branch r xs cs ts ≡ Branch s ys es us
branch_same e f g h = cc

-- ---- leaves

pub no_parts : (ns : List Node) (j m : ℕ) → m ≡ 0 → parts ns j m ≡ NoTrees
no_parts ns j m e = ap (parts ns j) e

pub within_both : (fs ms : List ℕ) (as' bs : List D.Credit) (t : Tree) → ((x : ℕ) → root t (Own x) ≤ given x ms) → ((k : ℕ) → root t (Credit k) ≤ amount k bs) → (i : Item) → root t i ≤ owned ms bs i
within_both fs ms as' bs t f g (Own x) = f x
within_both fs ms as' bs t f g (Credit k) = g k

pub ruleset below_nodes = (below_start, below_step, below_refused, below_fip, below_found, below_only, below_missing)
