-- A node, and the one that weakens above it.
use Rattle.std.proofs.Common.{◌≡◌, ℕ, ◌<◌, ◌≤◌, inl, inr, refl, sym, ap, subst, ◌∙◌, List, Bool, true, false, arith}
use Rattle.std.specs.Prelude.{◌&&◌}
use Rattle.ownership_agreement.specs.ownership_calculus.Terms.{Item, Own, Credit}
use Rattle.ownership_agreement.specs.ownership_calculus.Rules.{Fits}
use Rattle.ownership_agreement.proofs.ownership_calculus.Fit.{fits_le}
use Rattle.derivation_check.specs.derivation_trees.declared.derivation.RuleName.{RuleName}
use Rattle.derivation_check.specs.derivation_trees.declared.derivation.RuleName.TheVariants as R
use Rattle.derivation_check.specs.derivation_trees.declared.derivation.Credit as D
use Rattle.derivation_check.specs.derivation_trees.Trees.{Tree, Branch, Trees, NoTrees, MoreTrees}
use Rattle.derivation_check.specs.Owned.{amount, owned, root, Rising, IsOwned, is_weaken, Under}
use Rattle.derivation_check.specs.Scopes.{Known}
use Rattle.derivation_check.specs.Calculus.{own_variables}
use Rattle.derivation_making.specs.Made.{those, all_those, numbers, credits, same_from, weakened, node}
use Rattle.derivation_making.proofs.Lists.{both_are, and_true, given_less, rising_those, all_are}
use Rattle.derivation_making.proofs.Credits.{by_size, amount_in, amount_out, rising_credits, same_credits, same_sizes}
use Rattle.ownership_agreement.proofs.ownership_calculus.Forth.{fits_eq as fits_equal}

-- a node that has these variables and credits
abbrev pub Has : List Known → (ℕ → ℕ) → Tree → Type 0
Has there have t = (q : RuleName) × (us : Trees) × (t ≡ Branch q (numbers there) (credits have) us)

has_weakened : (b : Bool) (r : RuleName) (f : ℕ → Bool) (there : List Known) (have needed : ℕ → ℕ) (ts : Trees) → (b ≡ true → (all_those f there ≡ true) × (same_from have needed 1 16 ≡ true)) → Has there have (weakened b there have (Branch r (numbers (those f there)) (credits needed) ts))
has_weakened true r f there have needed ts h =
    let a = h refl in
    let e : numbers (those f there) ≡ numbers there = ap numbers (all_are f there a.0) in
    let g : credits needed ≡ credits have = sym (same_credits have needed a.1) in
    (r, ts, ap (λ (xs : List ℕ). Branch r xs (credits needed) ts) e ∙ ap (λ (cs : List D.Credit). Branch r (numbers there) cs ts) g)
has_weakened false r f there have needed ts h = (R.Weaken, MoreTrees (Branch r (numbers (those f there)) (credits needed) ts) NoTrees, refl)

pub has_node : (r : RuleName) (f : ℕ → Bool) (there : List Known) (have needed : ℕ → ℕ) (ts : Trees) → Has there have (node r f there have needed ts)
has_node r f there have needed ts = has_weakened (all_those f there && same_from have needed 1 16) r f there have needed ts (λ e. both_are (all_those f there) (same_from have needed 1 16) e)

pub has_root : (there : List Known) (have : ℕ → ℕ) (t : Tree) → Has there have t → (i : Item) → root t i ≡ owned (numbers there) (credits have) i
has_root there have t h i = ap (λ u. root u i) h.2

pub has_variables : (there : List Known) (have : ℕ → ℕ) (t : Tree) → Has there have t → own_variables t ≡ numbers there
has_variables there have t h = ap own_variables h.2

pub has_owned : (d : ℕ) (there : List Known) (have : ℕ → ℕ) (t : Tree) → Has there have t → Rising 0 d (numbers there) → IsOwned d t
has_owned d there have t h r = subst (IsOwned d) (sym h.2) (r, rising_credits have)

-- of less there is less
pub credits_less : (f g : ℕ → ℕ) → ((k : ℕ) → 0 < k → k < 17 → f k ≤ g k) → (k : ℕ) → amount k (credits f) ≤ amount k (credits g)
credits_less f g h =
    by_size (λ k. amount k (credits f) ≤ amount k (credits g))
    (λ k a b. let x = amount_in f k a b in let y = amount_in g k a b in let z = h k a b in omega arith)
    (λ k o. let x = amount_out f k o in omega arith)

pub owned_less : (f : ℕ → Bool) (there : List Known) (have needed : ℕ → ℕ) → ((k : ℕ) → 0 < k → k < 17 → needed k ≤ have k) → (i : Item) → owned (numbers (those f there)) (credits needed) i ≤ owned (numbers there) (credits have) i
owned_less f there have needed h (Own y) = given_less f there y
owned_less f there have needed h (Credit k) = credits_less needed have h k

under_weakened : (b fip : Bool) (d : ℕ) (r : RuleName) (f : ℕ → Bool) (there : List Known) (have needed : ℕ → ℕ) (ts : Trees) → (fip ≡ true → b ≡ true) → is_weaken r ≡ false → Rising 0 d (numbers there) → ((k : ℕ) → 0 < k → k < 17 → needed k ≤ have k) → Under fip d (weakened b there have (Branch r (numbers (those f there)) (credits needed) ts)) (Branch r (numbers (those f there)) (credits needed) ts)
under_weakened true fip d r f there have needed ts h g l n = inl (g, refl)
under_weakened false true d r f there have needed ts h g l n = absurd (let e = h refl in cc)
under_weakened false false d r f there have needed ts h g l n =
    inr (refl, refl, ((rising_those f 0 d there l, rising_credits needed), owned_less f there have needed n, inl (g, refl)))

-- In fip all that is there is asked for; in fbip more may be there.
pub under_node : (fip : Bool) (d : ℕ) (r : RuleName) (f : ℕ → Bool) (there : List Known) (have needed : ℕ → ℕ) (ts : Trees) → (fip ≡ true → all_those f there ≡ true) → ((k : ℕ) → 0 < k → k < 17 → Fits fip (have k) (needed k)) → is_weaken r ≡ false → Rising 0 d (numbers there) → Under fip d (node r f there have needed ts) (Branch r (numbers (those f there)) (credits needed) ts)
under_node fip d r f there have needed ts h g w l =
    under_weakened (all_those f there && same_from have needed 1 16) fip d r f there have needed ts
    (λ e. and_true (all_those f there) (same_from have needed 1 16) (h e) (same_sizes have needed (λ k a b. fits_equal fip (have k) (needed k) (g k a b) e)))
    w l (λ k a b. fits_le fip (have k) (needed k) (g k a b))
