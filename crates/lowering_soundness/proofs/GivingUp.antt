-- What is left is given up, while the registers that the end of the function needs stay.
use Rattle.std.proofs.Common.{◌≡◌, ◌⊎◌, inl, inr, ℕ, Bool, true, false, List, [], ◌∷◌, Option, Some, None, refl, sym, ap, ◌∙◌, if◌then◌else◌, ◌==◌}
use Rattle.separation.proofs.separation_kinds.Basics.{pick, chosen, refused, or_not, equal, unequal}
use Rattle.lowering_relation.specs.declared.held.Held.{Held}
use Rattle.lowering_relation.specs.declared.held.Held.TheVariants as H
use Rattle.lowering_relation.specs.Known.{lent_by, without}
use Rattle.lowering_relation.specs.Describing.{Holding, setting, is_tree}
use Rattle.lowering_soundness.specs.Covering.{using, using_all}
use Rattle.lowering_relation.specs.GivenUp.{spending}
use Rattle.lowering_soundness.proofs.Balance.{is_tree_using, using_either}
use Rattle.lowering_soundness.proofs.Cells.{using_beside, using_all_beside}

-- ---- registers in another order

-- what isn't borrowed from either
lent_both : (p r t : ℕ) (root : Option ℕ) → without p (lent_by r root (H.Lent t root)) ≡ without r (lent_by p root (H.Lent t root))
lent_both p r t None = refl
lent_both p r t (Some q) = by (q == r) (q == p) refl refl
  where
    by : (x y : Bool) → (q == r) ≡ x → (q == p) ≡ y → without p (if q == r then H.Nothing else H.Lent t (Some q)) ≡ without r (if q == p then H.Nothing else H.Lent t (Some q))
    by true true e f = ap (without p) (chosen (q == r) H.Nothing (H.Lent t (Some q)) e) ∙ sym (ap (without r) (chosen (q == p) H.Nothing (H.Lent t (Some q)) f))
    by true false e f = ap (without p) (chosen (q == r) H.Nothing (H.Lent t (Some q)) e) ∙ sym (ap (without r) (refused (q == p) H.Nothing (H.Lent t (Some q)) f) ∙ chosen (q == r) H.Nothing (H.Lent t (Some q)) e)
    by false true e f = (ap (without p) (refused (q == r) H.Nothing (H.Lent t (Some q)) e) ∙ chosen (q == p) H.Nothing (H.Lent t (Some q)) f) ∙ sym (ap (without r) (chosen (q == p) H.Nothing (H.Lent t (Some q)) f))
    by false false e f = (ap (without p) (refused (q == r) H.Nothing (H.Lent t (Some q)) e) ∙ refused (q == p) H.Nothing (H.Lent t (Some q)) f) ∙ sym (ap (without r) (refused (q == p) H.Nothing (H.Lent t (Some q)) f) ∙ refused (q == r) H.Nothing (H.Lent t (Some q)) e)

without_swap : (p r : ℕ) (h : Held) → without p (without r h) ≡ without r (without p h)
without_swap p r H.Nothing = refl
without_swap p r (H.Scalar t) = refl
without_swap p r (H.Owned t b) = refl
without_swap p r (H.Lent t root) = lent_both p r t root
without_swap p r (H.Credit n) = refl
without_swap p r (H.Bare t c) = refl

-- both are used up
both_used : (p r : ℕ) (a b : Bool) (h : Held) → (if a then H.Nothing else without p (if b then H.Nothing else without r h)) ≡ (if b then H.Nothing else without r (if a then H.Nothing else without p h))
both_used p r true true h = refl
both_used p r true false h = refl
both_used p r false true h = refl
both_used p r false false h = without_swap p r h

swap_by : (p r : ℕ) (tp tr a b : Bool) (h : Held) → (if tp then (if a then H.Nothing else without p (if tr then (if b then H.Nothing else without r h) else h)) else (if tr then (if b then H.Nothing else without r h) else h)) ≡ (if tr then (if b then H.Nothing else without r (if tp then (if a then H.Nothing else without p h) else h)) else (if tp then (if a then H.Nothing else without p h) else h))
swap_by p r true true a b h = both_used p r a b h
swap_by p r true false a b h = refl
swap_by p r false true a b h = refl
swap_by p r false false a b h = refl

pub using_swap : (g : Holding) (r p : ℕ) → using (using g r) p ≡ using (using g p) r
using_swap g r p = elim (or_not (p == r)) as (λ v. using (using g r) p ≡ using (using g p) r) [
  | inl e ↦ ap (λ x. using (using g r) x) (equal p r e) ∙ ap (λ x. using (using g x) r) (sym (equal p r e))
  | inr e ↦ apart (unequal p r e)
]
  where
    apart : (p ≡ r → ⊥) → using (using g r) p ≡ using (using g p) r
    apart ne = λ i q. each q i
      where
        each : (q : ℕ) → using (using g r) p q ≡ using (using g p) r q
        each q =
            ap (λ b. if b then (if q == p then H.Nothing else without p (using g r q)) else using g r q) (is_tree_using g r p ne)
            ∙ (swap_by p r (is_tree (g p)) (is_tree (g r)) (q == p) (q == r) (g q)
            ∙ sym (ap (λ b. if b then (if q == r then H.Nothing else without r (using g p q)) else using g p q) (is_tree_using g p r (λ z. ne (sym z)))))

pub using_all_swap : (rs : List ℕ) (g : Holding) (r : ℕ) → using_all (using g r) rs ≡ using (using_all g rs) r
using_all_swap [] g r = refl
using_all_swap (p ∷ rs) g r = ap (λ x. using_all x rs) (using_swap g r p) ∙ using_all_swap rs (using g p) r

-- ---- credits that are spent

abbrev pub NoTrees : Holding → List ℕ → Type 0
NoTrees g [] = Unit {0}
NoTrees g (r ∷ rs) = (is_tree (g r) ≡ false) × NoTrees g rs

setting_swap : (g : Holding) (r p : ℕ) → setting (setting g r H.Nothing) p H.Nothing ≡ setting (setting g p H.Nothing) r H.Nothing
setting_swap g r p = λ i q. by (q == p) (q == r) (g q) i
  where
    by : (a b : Bool) (h : Held) → (if a then H.Nothing else (if b then H.Nothing else h)) ≡ (if b then H.Nothing else (if a then H.Nothing else h))
    by true true h = refl
    by true false h = refl
    by false true h = refl
    by false false h = refl

pub spending_beside : (cs : List ℕ) (g : Holding) (r : ℕ) → spending (setting g r H.Nothing) cs ≡ setting (spending g cs) r H.Nothing
spending_beside [] g r = refl
spending_beside (p ∷ cs) g r = ap (λ x. spending x cs) (setting_swap g r p) ∙ spending_beside cs (setting g p H.Nothing) r

no_tree_setting : (g : Holding) (p r : ℕ) → is_tree (g r) ≡ false → is_tree (setting g p H.Nothing r) ≡ false
no_tree_setting g p r none = pick (λ h. is_tree h ≡ false) (r == p) H.Nothing (g r) (λ e. refl) (λ e. none)

pub no_trees_setting : (cs : List ℕ) (g : Holding) (p : ℕ) → NoTrees g cs → NoTrees (setting g p H.Nothing) cs
no_trees_setting [] g p h = tt
no_trees_setting (r ∷ cs) g p h = (no_tree_setting g p r h.0, no_trees_setting cs g p h.1)

pub spending_swap : (cs : List ℕ) (g : Holding) (r : ℕ) → NoTrees g cs → spending (using g r) cs ≡ using (spending g cs) r
spending_swap [] g r h = refl
spending_swap (p ∷ cs) g r h = ap (λ x. spending x cs) (sym (using_beside g p r h.0)) ∙ spending_swap cs (setting g p H.Nothing) r (no_trees_setting cs g p h.1)

-- what is left after registers that are used up and credits that are spent
abbrev pub following : List ℕ → List ℕ → Holding → Holding
following us cs g = spending (using_all g us) cs

pub after_setting : (us cs : List ℕ) (g : Holding) (r : ℕ) → is_tree (g r) ≡ false → following us cs (setting g r H.Nothing) ≡ setting (following us cs g) r H.Nothing
after_setting us cs g r none = ap (λ x. spending x cs) (using_all_beside us g r none) ∙ spending_beside cs (using_all g us) r

pub after_using : (us cs : List ℕ) (g : Holding) (r : ℕ) → NoTrees (using_all g us) cs → following us cs (using g r) ≡ using (following us cs g) r
after_using us cs g r none = ap (λ x. spending x cs) (using_all_swap us g r) ∙ spending_swap cs (using_all g us) r none

-- each register holds what it held, or nothing
pub using_all_either : (us : List ℕ) (g : Holding) (r : ℕ) → (using_all g us r ≡ g r) ⊎ (using_all g us r ≡ H.Nothing)
using_all_either [] g r = inl refl
using_all_either (p ∷ us) g r = elim (using_all_either us (using g p) r) as (λ v. (using_all (using g p) us r ≡ g r) ⊎ (using_all (using g p) us r ≡ H.Nothing)) [
  | inl e ↦ elim (using_either g p r) as (λ v. (using_all (using g p) us r ≡ g r) ⊎ (using_all (using g p) us r ≡ H.Nothing)) [
    | inl d ↦ inl (e ∙ d)
    | inr d ↦ inr (e ∙ d)
  ]
  | inr e ↦ inr e
]

spending_either : (cs : List ℕ) (g : Holding) (r : ℕ) → (spending g cs r ≡ g r) ⊎ (spending g cs r ≡ H.Nothing)
spending_either [] g r = inl refl
spending_either (p ∷ cs) g r = elim (spending_either cs (setting g p H.Nothing) r) as (λ v. (spending (setting g p H.Nothing) cs r ≡ g r) ⊎ (spending (setting g p H.Nothing) cs r ≡ H.Nothing)) [
  | inl e ↦ elim (or_not (r == p)) as (λ v. (spending (setting g p H.Nothing) cs r ≡ g r) ⊎ (spending (setting g p H.Nothing) cs r ≡ H.Nothing)) [
    | inl d ↦ inr (e ∙ chosen (r == p) H.Nothing (g r) d)
    | inr d ↦ inl (e ∙ refused (r == p) H.Nothing (g r) d)
  ]
  | inr e ↦ inr e
]

-- what is held after was held before
pub after_was : (us cs : List ℕ) (g : Holding) (r : ℕ) → (following us cs g r ≡ H.Nothing → ⊥) → following us cs g r ≡ g r
after_was us cs g r some = elim (spending_either cs (using_all g us) r) as (λ v. following us cs g r ≡ g r) [
  | inl e ↦ elim (using_all_either us g r) as (λ v. following us cs g r ≡ g r) [
    | inl d ↦ e ∙ d
    | inr d ↦ absurd (some (e ∙ d))
  ]
  | inr e ↦ absurd (some e)
]
