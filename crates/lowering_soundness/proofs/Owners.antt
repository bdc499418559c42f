-- How often variables with a register are owned, and how many credits there are.
use Rattle.std.proofs.Common.{◌≡◌, inl, inr, ℕ, zero, suc, ◌+◌, ◌≤◌, Bool, true, false, ◌&&◌, List, [], ◌∷◌, ◌++◌, Option, Some, None, refl, sym, ap, ◌∙◌, true≢false, arith, if◌then◌else◌, ◌==◌}
use Rattle.derivation_making.specs.ownership_calculus.Terms.{one}
use Rattle.derivation_making.specs.ownership_calculus.Rules.{Fits}
use Rattle.derivation_making.proofs.ownership_calculus.Fit.{fits_same, fits_sum}
use Rattle.separation.proofs.separation_kinds.Basics.{chosen, refused, or_not, equal, equal_is, unequal, unequal_is}
use Rattle.lowering_relation.specs.declared.held.Credit.{Credit}
use Rattle.lowering_relation.specs.Known.{register_of, IsTaken}
use Rattle.lowering_soundness.specs.Ties.{one_if, is_register, owners, sized, counted}
use Rattle.tail_groups.proofs.fip_language.Facts.{if_sum as cond_sum, if_zero_zero as cond_zero}

pub owners_same : (names : List (Option ℕ)) (T X : ℕ → ℕ) (r : ℕ) → ((x : ℕ) → T x ≡ X x) → owners names T r ≡ owners names X r
owners_same names T X r e = let z : T ≡ X = λ i x. e x i in ap (λ T. owners names T r) z

cond_fits : (fip b : Bool) (n m : ℕ) → Fits fip n m → Fits fip (if b then n else 0) (if b then m else 0)
cond_fits fip true n m h = h
cond_fits fip false n m h = fits_same fip 0

pub owners_fits : (fip : Bool) (names : List (Option ℕ)) (T X : ℕ → ℕ) (r : ℕ) → ((x : ℕ) → Fits fip (T x) (X x)) → Fits fip (owners names T r) (owners names X r)
owners_fits fip [] T X r h = fits_same fip 0
owners_fits fip (o ∷ os) T X r h =
    fits_sum fip ((if is_register o r then T 0 else 0) + owners os (λ x. T (suc x)) r) (if is_register o r then T 0 else 0) (owners os (λ x. T (suc x)) r) (if is_register o r then X 0 else 0) (owners os (λ x. X (suc x)) r)
    (fits_same fip ((if is_register o r then T 0 else 0) + owners os (λ x. T (suc x)) r))
    (cond_fits fip (is_register o r) (T 0) (X 0) (h 0)) (owners_fits fip os (λ x. T (suc x)) (λ x. X (suc x)) r (λ x. h (suc x)))

pub owners_less : (names : List (Option ℕ)) (T X : ℕ → ℕ) (r : ℕ) → ((x : ℕ) → X x ≤ T x) → owners names X r ≤ owners names T r
owners_less names T X r h = owners_fits false names T X r h

pub owners_sum : (names : List (Option ℕ)) (T X : ℕ → ℕ) (r : ℕ) → owners names (λ x. T x + X x) r ≡ owners names T r + owners names X r
owners_sum [] T X r = omega arith
owners_sum (o ∷ os) T X r =
    let a = cond_sum (is_register o r) (T 0) (X 0) in
    let b = owners_sum os (λ x. T (suc x)) (λ x. X (suc x)) r in
    omega (arith, a, b)

pub owners_none : (names : List (Option ℕ)) (T : ℕ → ℕ) (r : ℕ) → ((x : ℕ) → T x ≡ 0) → owners names T r ≡ 0
owners_none [] T r h = refl
owners_none (o ∷ os) T r h =
    let a = cond_zero (is_register o r) (T 0) (h 0) in
    let b = owners_none os (λ x. T (suc x)) r (λ x. h (suc x)) in
    omega (arith, a, b)

one_suc : (x y : ℕ) → one (suc x) (suc y) ≡ one x y
one_suc x y = elim (or_not (x == y)) as (λ v. one (suc x) (suc y) ≡ one x y) [
  | inl e ↦ chosen (suc x == suc y) 1 0 (equal_is (suc x) (suc y) (ap suc (equal x y e))) ∙ sym (chosen (x == y) 1 0 e)
  | inr e ↦ refused (suc x == suc y) 1 0 (unequal_is (suc x) (suc y) (λ z. unequal x y e (omega (arith, z)))) ∙ sym (refused (x == y) 1 0 e)
]

one_apart : (x y : ℕ) → (x ≡ y → ⊥) → one x y ≡ 0
one_apart x y ne = refused (x == y) 1 0 (unequal_is x y ne)

cond_one : (b : Bool) → (if b then 1 else 0) ≡ one_if b
cond_one true = refl
cond_one false = refl

pub owners_only : (names : List (Option ℕ)) (x r q : ℕ) → register_of names (Some x) ≡ Some r → owners names (one x) q ≡ one_if (r == q)
owners_only [] x r q e = absurd (cc)
owners_only (None ∷ os) zero r q e = absurd (cc)
owners_only (Some p ∷ os) zero r q e =
    let same : p ≡ r = cc in
    let rest = owners_none os (λ y. one zero (suc y)) q (λ y. one_apart zero (suc y) (λ z. absurd (omega (arith, z)))) in
    let here : (if p == q then one zero zero else 0) ≡ one_if (p == q) = cond_one (p == q) in
    let z : owners (Some p ∷ os) (one zero) q ≡ one_if (p == q) = omega (arith, rest, here) in
    z ∙ ap (λ p. one_if (p == q)) same
owners_only (o ∷ os) (suc x) r q e =
    let first = cond_zero (is_register o q) (one (suc x) zero) (one_apart (suc x) zero (λ z. absurd (omega (arith, z)))) in
    let rest = owners_same os (λ y. one (suc x) (suc y)) (one x) q (one_suc x) in
    let more = owners_only os x r q e in
    omega (arith, first, rest, more)

cond_most : (b : Bool) (n : ℕ) → b ≡ true → n ≤ (if b then n else 0)
cond_most true n e = omega arith
cond_most false n e = absurd (true≢false (sym e))

pub owners_least : (names : List (Option ℕ)) (T : ℕ → ℕ) (x r : ℕ) → register_of names (Some x) ≡ Some r → T x ≤ owners names T r
owners_least [] T x r e = absurd (cc)
owners_least (None ∷ os) T zero r e = absurd (cc)
owners_least (Some p ∷ os) T zero r e = let same : p ≡ r = cc in let z = cond_most (p == r) (T 0) (equal_is p r same) in omega (arith, z)
owners_least (o ∷ os) T (suc x) r e = let z = owners_least os (λ y. T (suc y)) x r e in omega (arith, z)

-- ---- credits

pub sized_both : (n : ℕ) (a b : List Credit) → sized n (a ++ b) ≡ sized n a + sized n b
sized_both n [] b = omega arith
sized_both n (c ∷ a) b = let z = sized_both n a b in omega (arith, z)

pub counted_both : (n r : ℕ) (a b : List Credit) → counted n r (a ++ b) ≡ counted n r a + counted n r b
counted_both n r [] b = omega arith
counted_both n r (c ∷ a) b = let z = counted_both n r a b in omega (arith, z)

-- one that is taken
pub sized_taken : (cs : List Credit) (n r : ℕ) (rest : List Credit) (m : ℕ) → IsTaken cs n r rest → sized m cs ≡ one_if (n == m) + sized m rest
sized_taken cs n r rest m t =
    let c : Credit = record { size = n; register = r } in
    let a = ap (sized m) t.was in
    let b = sized_both m t.before (c ∷ t.following) in
    let d = ap (sized m) t.left in
    let e = sized_both m t.before t.following in
    omega (arith, a, b, d, e)

pub counted_taken : (cs : List Credit) (n r : ℕ) (rest : List Credit) (m q : ℕ) → IsTaken cs n r rest → counted m q cs ≡ one_if ((n == m) && (r == q)) + counted m q rest
counted_taken cs n r rest m q t =
    let c : Credit = record { size = n; register = r } in
    let a = ap (counted m q) t.was in
    let b = counted_both m q t.before (c ∷ t.following) in
    let d = ap (counted m q) t.left in
    let e = counted_both m q t.before t.following in
    omega (arith, a, b, d, e)
