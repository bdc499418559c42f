-- What registers own, while trees are used up and registers are written.
use Rattle.std.proofs.Common.{◌≡◌, ◌⊎◌, inl, inr, ℕ, suc, ◌+◌, ◌≤◌, Bool, true, false, ◌||◌, List, [], ◌∷◌, Option, Some, None, refl, sym, ap, ◌∙◌, subst, true≢false, arith, if◌then◌else◌, ◌==◌}
use Rattle.separation.specs.fip_language.Table.{Table}
use Rattle.derivation_making.specs.ownership_calculus.Rules.{Fits}
use Rattle.derivation_making.proofs.ownership_calculus.Fit.{fits_same}
use Rattle.separation.specs.code_rules.Types.{is_scalar_type}
use Rattle.separation.proofs.separation_kinds.Basics.{pick, chosen, refused, or_not, equal, equal_is, unequal, unequal_is, itself}
use Rattle.lowering_relation.specs.declared.held.Held.{Held}
use Rattle.lowering_relation.specs.declared.held.Held.TheVariants as H
use Rattle.lowering_relation.specs.Known.{lent_by, without}
use Rattle.lowering_relation.specs.Describing.{Holding, is_tree}
use Rattle.lowering_soundness.specs.Covering.{using, using_all}
use Rattle.lowering_soundness.specs.Giving.{is_scalar_of, is_owned_of, can_give}
use Rattle.lowering_soundness.specs.Ties.{one_if, HoldsValue, AllHold, owe, owed, Balanced, Rooted, Stays}
use Rattle.lowering_soundness.proofs.Covering.{using_none}
use Rattle.lowering_soundness.proofs.Giving.{owned_tree, and_to}
use Rattle.tail_groups.proofs.fip_language.Facts.{or_first as or_left, or_last as or_right}

-- ---- sums that fit

pub fits_less : (fip : Bool) (a n m : ℕ) → m ≤ n → (fip ≡ true → m ≡ n) → Fits fip a n → Fits fip a m
fits_less true a n m le same h = let e = same refl in omega (arith, e, h)
fits_less false a n m le same h = omega (arith, le, h)

-- a register that owns one tree is owned by one
pub fits_one : (fip : Bool) (b : Bool) (n : ℕ) → Fits fip (one_if b) (suc n) → (b ≡ true) × (n ≡ 0)
fits_one true true n h = (refl, omega (arith, h))
fits_one true false n h = absurd (omega (arith, h))
fits_one false true n h = (refl, omega (arith, h))
fits_one false false n h = absurd (omega (arith, h))

pub fits_none : (fip : Bool) → Fits fip 0 0
fits_none fip = fits_same fip 0

pub fits_zero : (fip : Bool) (n : ℕ) → Fits fip 0 n → n ≡ 0
fits_zero true n h = omega (arith, h)
fits_zero false n h = omega (arith, h)

-- ---- one tree is used up

pub tree_without : (r : ℕ) (h : Held) → is_tree h ≡ true → without r h ≡ h
tree_without r H.Nothing e = refl
tree_without r (H.Scalar t) e = refl
tree_without r (H.Owned t b) e = refl
tree_without r (H.Lent t root) e = absurd (true≢false (sym e))
tree_without r (H.Credit n) e = refl
tree_without r (H.Bare t c) e = refl

lent_no_tree : (r t : ℕ) (o root : Option ℕ) → is_tree (lent_by r o (H.Lent t root)) ≡ false
lent_no_tree r t None root = refl
lent_no_tree r t (Some q) root = pick (λ h. is_tree h ≡ false) (q == r) H.Nothing (H.Lent t root) (λ e. refl) (λ e. refl)

pub is_tree_without : (r : ℕ) (h : Held) → is_tree (without r h) ≡ is_tree h
is_tree_without r H.Nothing = refl
is_tree_without r (H.Scalar t) = refl
is_tree_without r (H.Owned t b) = refl
is_tree_without r (H.Lent t root) = lent_no_tree r t root root
is_tree_without r (H.Credit n) = refl
is_tree_without r (H.Bare t c) = refl

pub using_self : (g : Holding) (r : ℕ) → is_tree (g r) ≡ true → using g r r ≡ H.Nothing
using_self g r e = chosen (is_tree (g r)) (if r == r then H.Nothing else without r (g r)) (g r) e ∙ chosen (r == r) H.Nothing (without r (g r)) (itself r)

pub using_other : (g : Holding) (r q : ℕ) → (q ≡ r → ⊥) → without r (g q) ≡ g q → using g r q ≡ g q
using_other g r q ne same =
    pick (λ h. h ≡ g q) (is_tree (g r)) (if q == r then H.Nothing else without r (g q)) (g q)
    (λ e. refused (q == r) H.Nothing (without r (g q)) (unequal_is q r ne) ∙ same) (λ e. refl)

pub using_tree : (g : Holding) (r q : ℕ) → (q ≡ r → ⊥) → is_tree (g q) ≡ true → using g r q ≡ g q
using_tree g r q ne e = using_other g r q ne (tree_without r (g q) e)

-- what owns no tree and isn't borrowed
pub using_plain : (g : Holding) (r q : ℕ) → is_tree (g q) ≡ false → without r (g q) ≡ g q → using g r q ≡ g q
using_plain g r q none same = elim (or_not (q == r)) as (λ v. using g r q ≡ g q) [
  | inl e ↦ using_none g r (subst (λ p. is_tree (g p) ≡ false) (equal q r e) none) q
  | inr e ↦ using_other g r q (unequal q r e) same
]

pub using_scalar : (g : Holding) (r q t : ℕ) → g q ≡ H.Scalar t → using g r q ≡ H.Scalar t
using_scalar g r q t e = using_plain g r q (ap is_tree e) (ap (without r) e ∙ sym e) ∙ e

pub using_lent : (g : Holding) (r q t : ℕ) → g q ≡ H.Lent t None → using g r q ≡ H.Lent t None
using_lent g r q t e = using_plain g r q (ap is_tree e) (ap (without r) e ∙ sym e) ∙ e

pub using_lent_of : (g : Holding) (r q t p : ℕ) → g q ≡ H.Lent t (Some p) → (p ≡ r → ⊥) → using g r q ≡ H.Lent t (Some p)
using_lent_of g r q t p e ne = using_plain g r q (ap is_tree e) (ap (without r) e ∙ (refused (p == r) H.Nothing (H.Lent t (Some p)) (unequal_is p r ne) ∙ sym e)) ∙ e

-- a register holds what it held, or nothing
pub using_either : (g : Holding) (r q : ℕ) → (using g r q ≡ g q) ⊎ (using g r q ≡ H.Nothing)
using_either g r q = by_tests (is_tree (g r)) (q == r) (g q)
  where
    by_lent : (b : Bool) (h : Held) → ((if b then H.Nothing else h) ≡ h) ⊎ ((if b then H.Nothing else h) ≡ H.Nothing)
    by_lent true h = inr refl
    by_lent false h = inl refl

    by_root : (t : ℕ) (o root : Option ℕ) → (lent_by r o (H.Lent t root) ≡ H.Lent t root) ⊎ (lent_by r o (H.Lent t root) ≡ H.Nothing)
    by_root t None root = inl refl
    by_root t (Some p) root = by_lent (p == r) (H.Lent t root)

    by_held : (h : Held) → (without r h ≡ h) ⊎ (without r h ≡ H.Nothing)
    by_held H.Nothing = inl refl
    by_held (H.Scalar t) = inl refl
    by_held (H.Owned t b) = inl refl
    by_held (H.Lent t root) = by_root t root root
    by_held (H.Credit n) = inl refl
    by_held (H.Bare t c) = inl refl

    by_tests : (own same : Bool) (h : Held) → ((if own then (if same then H.Nothing else without r h) else h) ≡ h) ⊎ ((if own then (if same then H.Nothing else without r h) else h) ≡ H.Nothing)
    by_tests true true h = inr refl
    by_tests true false h = by_held h
    by_tests false same h = inl refl

pub is_tree_using : (g : Holding) (r q : ℕ) → (q ≡ r → ⊥) → is_tree (using g r q) ≡ is_tree (g q)
is_tree_using g r q ne =
    pick (λ h. is_tree h ≡ is_tree (g q)) (is_tree (g r)) (if q == r then H.Nothing else without r (g q)) (g q)
    (λ e. ap is_tree (refused (q == r) H.Nothing (without r (g q)) (unequal_is q r ne)) ∙ is_tree_without r (g q)) (λ e. refl)

pub using_nothing : (g : Holding) (r q : ℕ) → g q ≡ H.Nothing → using g r q ≡ H.Nothing
using_nothing g r q e = using_plain g r q (ap is_tree e) (ap (without r) e ∙ sym e) ∙ e

pub using_credit : (g : Holding) (r q n : ℕ) → g q ≡ H.Credit n → using g r q ≡ H.Credit n
using_credit g r q n e = using_plain g r q (ap is_tree e) (ap (without r) e ∙ sym e) ∙ e

pub rooted_using : (g : Holding) (r : ℕ) → Rooted g → Rooted (using g r)
rooted_using g r rooted q t p e = elim (using_either g r q) as (λ v. is_tree (using g r p) ≡ true) [
  | inl same ↦ stays (sym same ∙ e)
  | inr none ↦ absurd (other none)
]
  where
    other : using g r q ≡ H.Nothing → ⊥
    other none = absurd (cc)

    gone : g q ≡ H.Lent t (Some p) → (p == r) ≡ true → is_tree (g r) ≡ true → using g r q ≡ H.Nothing
    gone was same tree =
        chosen (is_tree (g r)) (if q == r then H.Nothing else without r (g q)) (g q) tree
        ∙ pick (λ h. h ≡ H.Nothing) (q == r) H.Nothing (without r (g q)) (λ z. refl) (λ z. ap (without r) was ∙ chosen (p == r) H.Nothing (H.Lent t (Some p)) same)

    stays : g q ≡ H.Lent t (Some p) → is_tree (using g r p) ≡ true
    stays was = elim (or_not (p == r)) as (λ v. is_tree (using g r p) ≡ true) [
      | inl z ↦ absurd (other (gone was z (subst (λ x. is_tree (g x) ≡ true) (equal p r z) (rooted q t p was))))
      | inr z ↦ is_tree_using g r p (unequal p r z) ∙ rooted q t p was
    ]

-- ---- what is owed for one tree

one_same : (r n : ℕ) → one_if (r == r) + n ≡ suc n
one_same r n = let e = ap one_if (itself r) in omega (arith, e)

one_other : (r q n : ℕ) → (r ≡ q → ⊥) → one_if (r == q) + n ≡ n
one_other r q n ne = let e = ap one_if (unequal_is r q ne) in omega (arith, e)

pub owns_one : (fip : Bool) (g : Holding) (r : ℕ) (n : ℕ → ℕ) → Balanced fip g (λ q. one_if (r == q) + n q) → (is_tree (g r) ≡ true) × (n r ≡ 0)
owns_one fip g r n b = fits_one fip (is_tree (g r)) (n r) (subst (Fits fip (one_if (is_tree (g r)))) (one_same r (n r)) (b r))

pub use_balanced : (fip : Bool) (g : Holding) (r : ℕ) (n : ℕ → ℕ) → Balanced fip g (λ q. one_if (r == q) + n q) → Balanced fip (using g r) n
use_balanced fip g r n b q = elim (or_not (q == r)) as (λ v. Fits fip (one_if (is_tree (using g r q))) (n q)) [
  | inl e ↦ subst (λ x. Fits fip (one_if (is_tree (using g r x))) (n x)) (sym (equal q r e)) here
  | inr e ↦ subst (λ b. Fits fip (one_if b) (n q)) (sym (is_tree_using g r q (unequal q r e))) (subst (Fits fip (one_if (is_tree (g q)))) (one_other r q (n q) (λ z. unequal q r e (sym z))) (b q))
]
  where
    here : Fits fip (one_if (is_tree (using g r r))) (n r)
    here =
        let f = owns_one fip g r n b in
        subst (λ b. Fits fip (one_if b) (n r)) (sym (ap is_tree (using_self g r f.0))) (subst (Fits fip 0) (sym f.1) (fits_none fip))

not_zero : {A : Type 0} (n : ℕ) → 1 ≤ n → n ≡ 0 → A
not_zero n h e = absurd (let z : ⊥ = omega (arith, h, e) in z)

pub use_stays : (fip : Bool) (g : Holding) (r : ℕ) (n : ℕ → ℕ) → Balanced fip g (λ q. one_if (r == q) + n q) → Stays g (using g r) n
use_stays fip g r n b =
    let none = (owns_one fip g r n b).1 in
    record {
      scalar = λ q t e. using_scalar g r q t e;
      tree = λ q h e. using_tree g r q (λ z. not_zero (n r) (subst (λ x. 1 ≤ n x) z h) none) e;
      lent = λ q t e. using_lent g r q t e;
      lent_of = λ q t p e h. using_lent_of g r q t p e (λ z. not_zero (n r) (subst (λ x. 1 ≤ n x) z h) none);
    }

pub stays_same : (g : Holding) (n : ℕ → ℕ) → Stays g g n
stays_same g n = record { scalar = λ r t e. e; tree = λ r h e. refl; lent = λ r t e. e; lent_of = λ r t q e h. e }

pub stays_on : (a b d : Holding) (n : ℕ → ℕ) → Stays a b n → Stays b d n → Stays a d n
stays_on a b d n x y = record {
  scalar = λ r t e. y.scalar r t (x.scalar r t e);
  tree = λ r h e. y.tree r h (ap is_tree (x.tree r h e) ∙ e) ∙ x.tree r h e;
  lent = λ r t e. y.lent r t (x.lent r t e);
  lent_of = λ r t q e h. y.lent_of r t q (x.lent_of r t q e h) h;
}

pub stays_fewer : (a b : Holding) (n m : ℕ → ℕ) → ((r : ℕ) → m r ≤ n r) → Stays a b n → Stays a b m
stays_fewer a b n m le x = record {
  scalar = x.scalar;
  tree = λ r h e. x.tree r (let z = le r in omega (arith, z, h)) e;
  lent = x.lent;
  lent_of = λ r t q e h. x.lent_of r t q e (let z = le q in omega (arith, z, h));
}

-- ---- the registers of some values

pub balanced_same : (fip : Bool) (g : Holding) (n m : ℕ → ℕ) → ((r : ℕ) → n r ≡ m r) → Balanced fip g n → Balanced fip g m
balanced_same fip g n m same b r = subst (Fits fip (one_if (is_tree (g r)))) (same r) (b r)

pub record Given (fip : Bool) (w : Table) (g : Holding) (rs ts : List ℕ) (n : ℕ → ℕ) : Type 0 where
  pub can : can_give g rs ts ≡ true
  pub balanced : Balanced fip (using_all g rs) n
  pub stays : Stays g (using_all g rs) n

owe_scalar : (w : Table) (t r q : ℕ) → is_scalar_type w t ≡ true → owe w t r q ≡ 0
owe_scalar w t r q e = chosen (is_scalar_type w t) 0 (one_if (r == q)) e

owe_tree : (w : Table) (t r q : ℕ) → is_scalar_type w t ≡ false → owe w t r q ≡ one_if (r == q)
owe_tree w t r q e = refused (is_scalar_type w t) 0 (one_if (r == q)) e

sum_zero : (a b : ℕ) → a + b ≡ 0 → (a ≡ 0) × (b ≡ 0)
sum_zero a b e = (omega (arith, e), omega (arith, e))

one_zero : (r q : ℕ) → one_if (r == q) ≡ 0 → r ≡ q → ⊥
one_zero r q e z = let y = ap one_if (equal_is r q z) in absurd (omega (arith, e, y))

-- values that aren't in the register of the tree that is used up
pub values_using : (w : Table) (g : Holding) (r : ℕ) (rs ts : List ℕ) → owed w rs ts r ≡ 0 → AllHold w g rs ts → AllHold w (using g r) rs ts
values_using w g r [] [] none h = tt
values_using w g r [] (t ∷ ts) none h = absurd h
values_using w g r (q ∷ rs) [] none h = absurd h
values_using w g r (q ∷ rs) (t ∷ ts) none h =
    let parts = sum_zero (owe w t q r) (owed w rs ts r) none in (
      record {
        scalar = λ e. using_scalar g r q t (h.0.scalar e);
        owned = λ e. ap (is_owned_of t) (using_tree g r q (one_zero q r (sym (owe_tree w t q r e) ∙ parts.0)) (owned_tree t (g q) (h.0.owned e))) ∙ h.0.owned e;
      },
      values_using w g r rs ts parts.1 h.1,
    )

scalar_itself : (t : ℕ) (h : Held) → h ≡ H.Scalar t → is_scalar_of t h ≡ true
scalar_itself t h e = ap (is_scalar_of t) e ∙ itself t

pub can_give_value : (w : Table) (t : ℕ) (h : Held) → HoldsValue w t h → (is_scalar_of t h || is_owned_of t h) ≡ true
can_give_value w t h v = elim (or_not (is_scalar_type w t)) as (λ x. (is_scalar_of t h || is_owned_of t h) ≡ true) [
  | inl e ↦ or_left (is_scalar_of t h) (is_owned_of t h) (scalar_itself t h (v.scalar e))
  | inr e ↦ or_right (is_scalar_of t h) (is_owned_of t h) (v.owned e)
]

-- the first of some values, by what is so of the others
given_first : (fip : Bool) (w : Table) (r t : ℕ) (rs ts : List ℕ) (g : Holding) (n : ℕ → ℕ) → ((k : Holding) → Balanced fip k (λ q. owed w rs ts q + n q) → AllHold w k rs ts → Given fip w k rs ts n) → Balanced fip g (λ q. (owe w t r q + owed w rs ts q) + n q) → HoldsValue w t (g r) → AllHold w g rs ts → Given fip w g (r ∷ rs) (t ∷ ts) n
given_first fip w r t rs ts g n rest b held others = elim (or_not (is_scalar_type w t)) as (λ v. Given fip w g (r ∷ rs) (t ∷ ts) n) [
  | inl e ↦ scalar e
  | inr e ↦ owned e
]
  where
    first : (is_scalar_of t (g r) || is_owned_of t (g r)) ≡ true
    first = can_give_value w t (g r) held

    further : (k : Holding) → using g r ≡ k → Given fip w k rs ts n → Stays g k n → Given fip w g (r ∷ rs) (t ∷ ts) n
    further k e rest1 stays1 = (let rest2 = subst (λ k. Given fip w k rs ts n) (sym e) rest1 in let stays2 = subst (λ k. Stays g k n) (sym e) stays1 in record {
      can = and_to (is_scalar_of t (g r) || is_owned_of t (g r)) (can_give (using g r) rs ts) first rest2.can;
      balanced = rest2.balanced;
      stays = stays_on g (using g r) (using_all (using g r) rs) n stays2 rest2.stays;
    })

    scalar : is_scalar_type w t ≡ true → Given fip w g (r ∷ rs) (t ∷ ts) n
    scalar e =
        further g (λ i q. using_none g r (ap is_tree (held.scalar e)) q i)
        (rest g (balanced_same fip g (λ q. (owe w t r q + owed w rs ts q) + n q) (λ q. owed w rs ts q + n q) (λ q. let z = owe_scalar w t r q e in omega (arith, z)) b) others)
        (stays_same g n)

    owned : is_scalar_type w t ≡ false → Given fip w g (r ∷ rs) (t ∷ ts) n
    owned e =
        let b2 : Balanced fip g (λ q. one_if (r == q) + (owed w rs ts q + n q)) = balanced_same fip g (λ q. (owe w t r q + owed w rs ts q) + n q) (λ q. one_if (r == q) + (owed w rs ts q + n q)) (λ q. let z = owe_tree w t r q e in omega (arith, z)) b in
        let none = sum_zero (owed w rs ts r) (n r) (owns_one fip g r (λ q. owed w rs ts q + n q) b2).1 in
        further (using g r) refl
        (rest (using g r) (use_balanced fip g r (λ q. owed w rs ts q + n q) b2) (values_using w g r rs ts none.0 others))
        (stays_fewer g (using g r) (λ q. owed w rs ts q + n q) n (λ q. omega arith) (use_stays fip g r (λ q. owed w rs ts q + n q) b2))

pub given_all : (fip : Bool) (w : Table) (rs ts : List ℕ) (g : Holding) (n : ℕ → ℕ) → Balanced fip g (λ q. owed w rs ts q + n q) → AllHold w g rs ts → Given fip w g rs ts n
given_all fip w [] [] g n b h = record {
  can = refl;
  balanced = balanced_same fip g (λ q. 0 + n q) n (λ r. omega arith) b;
  stays = stays_same g n;
}
given_all fip w [] (t ∷ ts) g n b h = absurd h
given_all fip w (r ∷ rs) [] g n b h = absurd h
given_all fip w (r ∷ rs) (t ∷ ts) g n b h = given_first fip w r t rs ts g n (λ k b2 h2. given_all fip w rs ts k n b2 h2) b h.0 h.1
