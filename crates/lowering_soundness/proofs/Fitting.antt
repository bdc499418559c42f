-- What fits what: a map that takes kinds takes those that they cover, and a wider map takes what a narrower one takes.
use Rattle.std.proofs.Common.{◌≡◌, inl, inr, ℕ, suc, Bool, true, false, ◌&&◌, ◌||◌, List, [], ◌∷◌, length, Option, Some, None, refl, sym, ap, ◌∙◌, subst, true≢false, arith, ◌==◌}
use Rattle.separation.specs.cell_code.declared.kind.From.{From}
use Rattle.separation.specs.cell_code.declared.kind.Kind.{Kind}
use Rattle.separation.specs.cell_code.declared.kind.Kind.TheVariants.{Gone, Scalar, Owned, Lent, Credit}
use Rattle.separation.specs.code_rules.Kinds.{at, has, is_free, is_scalar_of, is_credit_of, same_root}
use Rattle.separation.specs.code_rules.Fitting.{is_subset, takes_from, fits, fit_all}
use Rattle.separation.proofs.separation_kinds.Basics.{both, one_of, equal, equal_is, itself}
use Rattle.lowering_soundness.specs.Covering.{Covers, Covered}
use Rattle.lowering_relation.specs.Labels.{Takes, Reports}
use Rattle.lowering_soundness.proofs.Giving.{and_to}

-- ---- sets

pub has_more : (y : ℕ) (xs : List ℕ) (x : ℕ) → has xs x ≡ true → has (y ∷ xs) x ≡ true
has_more y xs x e = either (y == x) (has xs x) e
  where
    either : (a b : Bool) → b ≡ true → (a || b) ≡ true
    either true b e = refl
    either false b e = e

pub has_here : (y : ℕ) (xs : List ℕ) → has (y ∷ xs) y ≡ true
has_here y xs = ap (λ b. b || has xs y) (itself y)

subset_more : (a : List ℕ) (y : ℕ) (b : List ℕ) → is_subset a b ≡ true → is_subset a (y ∷ b) ≡ true
subset_more [] y b e = refl
subset_more (x ∷ a) y b e = let t = both (has b x) (is_subset a b) e in and_to (has (y ∷ b) x) (is_subset a (y ∷ b)) (has_more y b x t.0) (subset_more a y b t.1)

pub subset_self : (a : List ℕ) → is_subset a a ≡ true
subset_self [] = refl
subset_self (x ∷ a) = and_to (has (x ∷ a) x) (is_subset a (x ∷ a)) (has_here x a) (subset_more a x a (subset_self a))

pub subset_has : (a b : List ℕ) (x : ℕ) → is_subset a b ≡ true → has a x ≡ true → has b x ≡ true
subset_has [] b x s h = absurd (true≢false (sym h))
subset_has (y ∷ a) b x s h =
    let t = both (has b y) (is_subset a b) s in
    elim (one_of (y == x) (has a x) h) as (λ v. has b x ≡ true) [
      | inl e ↦ subst (λ z. has b z ≡ true) (equal y x e) t.0
      | inr e ↦ subset_has a b x t.1 e
    ]

pub subset_on : (a b d : List ℕ) → is_subset a b ≡ true → is_subset b d ≡ true → is_subset a d ≡ true
subset_on [] b d s t = refl
subset_on (x ∷ a) b d s t =
    let u = both (has b x) (is_subset a b) s in
    and_to (has d x) (is_subset a d) (subset_has b d x t u.0) (subset_on a b d u.1 t)

-- ---- roots and froms

pub root_self : (o : Option ℕ) → same_root o o ≡ true
root_self None = refl
root_self (Some a) = itself a

same_on : (a b d : ℕ) → (a == b) ≡ true → (b == d) ≡ true → (a == d) ≡ true
same_on a b d x y = equal_is a d (equal a b x ∙ equal b d y)

root_on : (a b d : Option ℕ) → same_root a b ≡ true → same_root b d ≡ true → same_root a d ≡ true
root_on None None None x y = refl
root_on None None (Some d) x y = absurd (true≢false (sym y))
root_on None (Some b) d x y = absurd (true≢false (sym x))
root_on (Some a) None d x y = absurd (true≢false (sym x))
root_on (Some a) (Some b) None x y = absurd (true≢false (sym y))
root_on (Some a) (Some b) (Some d) x y = same_on a b d x y

from_self : (o : Option From) → takes_from o o ≡ true
from_self None = refl
from_self (Some f) = and_to (f.register == f.register) (f.field == f.field) (itself f.register) (itself f.field)

from_on : (a b d : Option From) → takes_from a b ≡ true → takes_from b d ≡ true → takes_from a d ≡ true
from_on None b d x y = refl
from_on (Some a) None d x y = absurd (true≢false (sym x))
from_on (Some a) (Some b) None x y = absurd (true≢false (sym y))
from_on (Some a) (Some b) (Some d) x y =
    let s = both (a.register == b.register) (a.field == b.field) x in
    let t = both (b.register == d.register) (b.field == d.field) y in
    and_to (a.register == d.register) (a.field == d.field) (same_on a.register b.register d.register s.0 t.0) (same_on a.field b.field d.field s.1 t.1)

-- ---- kinds

pub covers_self : (k : Kind) → Covers k k
covers_self k = refl

lent_fits : (t : ℕ) (s : List ℕ) (root : Option ℕ) (a b : Option From) → takes_from a b ≡ true → fits (Lent t s root a) (Lent t s root b) ≡ true
lent_fits t s root a b e =
    and_to (t == t) (is_subset s s && (same_root root root && takes_from a b)) (itself t)
    (and_to (is_subset s s) (same_root root root && takes_from a b) (subset_self s) (and_to (same_root root root) (takes_from a b) (root_self root) e))

pub fits_self : (m : Kind) → fits m m ≡ true
fits_self Gone = refl
fits_self (Scalar t) = itself t
fits_self (Owned t s) = and_to (t == t) (is_subset s s) (itself t) (subset_self s)
fits_self (Lent t s root from) = lent_fits t s root from from (from_self from)
fits_self (Credit n) = itself n

pub covers_fits : (m k : Kind) → Covers m k → fits m k ≡ true
covers_fits m k e = ap (fits m) e ∙ fits_self m

free_on : (a b : Kind) → is_free a ≡ true → fits a b ≡ true → is_free b ≡ true
free_on Gone b x y = y
free_on (Scalar t) Gone x y = refl
free_on (Scalar t) (Scalar u) x y = refl
free_on (Scalar t) (Owned u s) x y = absurd (true≢false (sym y))
free_on (Scalar t) (Lent u s root from) x y = refl
free_on (Scalar t) (Credit n) x y = absurd (true≢false (sym y))
free_on (Owned t s) b x y = absurd (true≢false (sym x))
free_on (Lent t s root from) Gone x y = refl
free_on (Lent t s root from) (Scalar u) x y = refl
free_on (Lent t s root from) (Owned u a) x y = absurd (true≢false (sym y))
free_on (Lent t s root from) (Lent u a o f) x y = refl
free_on (Lent t s root from) (Credit n) x y = absurd (true≢false (sym y))
free_on (Credit n) b x y = absurd (true≢false (sym x))

scalar_on : (t : ℕ) (b d : Kind) → is_scalar_of t b ≡ true → fits b d ≡ true → is_scalar_of t d ≡ true
scalar_on t Gone d x y = absurd (true≢false (sym x))
scalar_on t (Scalar u) Gone x y = absurd (true≢false (sym y))
scalar_on t (Scalar u) (Scalar v) x y = same_on v u t y x
scalar_on t (Scalar u) (Owned v s) x y = absurd (true≢false (sym y))
scalar_on t (Scalar u) (Lent v s root from) x y = absurd (true≢false (sym y))
scalar_on t (Scalar u) (Credit n) x y = absurd (true≢false (sym y))
scalar_on t (Owned u s) d x y = absurd (true≢false (sym x))
scalar_on t (Lent u s root from) d x y = absurd (true≢false (sym x))
scalar_on t (Credit n) d x y = absurd (true≢false (sym x))

credit_on : (t : ℕ) (b d : Kind) → is_credit_of t b ≡ true → fits b d ≡ true → is_credit_of t d ≡ true
credit_on t Gone d x y = absurd (true≢false (sym x))
credit_on t (Scalar u) d x y = absurd (true≢false (sym x))
credit_on t (Owned u s) d x y = absurd (true≢false (sym x))
credit_on t (Lent u s root from) d x y = absurd (true≢false (sym x))
credit_on t (Credit n) Gone x y = absurd (true≢false (sym y))
credit_on t (Credit n) (Scalar v) x y = absurd (true≢false (sym y))
credit_on t (Credit n) (Owned v s) x y = absurd (true≢false (sym y))
credit_on t (Credit n) (Lent v s root from) x y = absurd (true≢false (sym y))
credit_on t (Credit n) (Credit m) x y = same_on m n t y x

owned_on : (t : ℕ) (s : List ℕ) (b d : Kind) → fits (Owned t s) b ≡ true → fits b d ≡ true → fits (Owned t s) d ≡ true
owned_on t s Gone d x y = absurd (true≢false (sym x))
owned_on t s (Scalar u) d x y = absurd (true≢false (sym x))
owned_on t s (Owned u a) Gone x y = absurd (true≢false (sym y))
owned_on t s (Owned u a) (Scalar v) x y = absurd (true≢false (sym y))
owned_on t s (Owned u a) (Owned v b) x y =
    let e = both (u == t) (is_subset a s) x in
    let g = both (v == u) (is_subset b a) y in
    and_to (v == t) (is_subset b s) (same_on v u t g.0 e.0) (subset_on b a s g.1 e.1)
owned_on t s (Owned u a) (Lent v b root from) x y = absurd (true≢false (sym y))
owned_on t s (Owned u a) (Credit n) x y = absurd (true≢false (sym y))
owned_on t s (Lent u a root from) d x y = absurd (true≢false (sym x))
owned_on t s (Credit n) d x y = absurd (true≢false (sym x))

lent_on : (t : ℕ) (s : List ℕ) (root : Option ℕ) (from : Option From) (b d : Kind) → fits (Lent t s root from) b ≡ true → fits b d ≡ true → fits (Lent t s root from) d ≡ true
lent_on t s root from Gone d x y = absurd (true≢false (sym x))
lent_on t s root from (Scalar u) d x y = absurd (true≢false (sym x))
lent_on t s root from (Owned u a) d x y = absurd (true≢false (sym x))
lent_on t s root from (Lent u a o f) Gone x y = absurd (true≢false (sym y))
lent_on t s root from (Lent u a o f) (Scalar v) x y = absurd (true≢false (sym y))
lent_on t s root from (Lent u a o f) (Owned v b) x y = absurd (true≢false (sym y))
lent_on t s root from (Lent u a o f) (Lent v b p g) x y =
    let e = both (u == t) (is_subset a s && (same_root o root && takes_from from f)) x in
    let e1 = both (is_subset a s) (same_root o root && takes_from from f) e.1 in
    let e2 = both (same_root o root) (takes_from from f) e1.1 in
    let h = both (v == u) (is_subset b a && (same_root p o && takes_from f g)) y in
    let h1 = both (is_subset b a) (same_root p o && takes_from f g) h.1 in
    let h2 = both (same_root p o) (takes_from f g) h1.1 in
    and_to (v == t) (is_subset b s && (same_root p root && takes_from from g)) (same_on v u t h.0 e.0)
    (and_to (is_subset b s) (same_root p root && takes_from from g) (subset_on b a s h1.0 e1.0)
    (and_to (same_root p root) (takes_from from g) (root_on p o root h2.0 e2.0) (from_on from f g e2.1 h2.1)))
lent_on t s root from (Lent u a o f) (Credit n) x y = absurd (true≢false (sym y))
lent_on t s root from (Credit n) d x y = absurd (true≢false (sym x))

pub fits_on : (a b d : Kind) → fits a b ≡ true → fits b d ≡ true → fits a d ≡ true
fits_on Gone b d x y = free_on b d x y
fits_on (Scalar t) b d x y = scalar_on t b d x y
fits_on (Owned t s) b d x y = owned_on t s b d x y
fits_on (Lent t s root from) b d x y = lent_on t s root from b d x y
fits_on (Credit n) b d x y = credit_on n b d x y

-- ---- all registers

pub fit_each : (ms ks : List Kind) → length ms ≡ length ks → ((r : ℕ) → fits (at ms r) (at ks r) ≡ true) → fit_all ms ks ≡ true
fit_each [] [] e h = refl
fit_each [] (k ∷ ks) e h = absurd (omega (arith, e))
fit_each (m ∷ ms) [] e h = absurd (omega (arith, e))
fit_each (m ∷ ms) (k ∷ ks) e h = and_to (fits m k) (fit_all ms ks) (h 0) (fit_each ms ks (omega (arith, e)) (λ r. h (suc r)))

pub takes_all : (n : ℕ) (map : List Kind) (m : ℕ → Kind) (ks : List Kind) → Takes n map m → Covered n m ks → fit_all map ks ≡ true
takes_all n map m ks t c =
    fit_each map ks (t.wide ∙ sym c.wide) (λ r. fits_on (at map r) (m r) (at ks r) (t.each r) (covers_fits (m r) (at ks r) (c.each r)))

pub reports_covered : (n : ℕ) (map : List Kind) (m : ℕ → Kind) → Reports n map m → Covered n m map
reports_covered n map m t = record { wide = t.wide; each = λ r. subst (λ k. Covers (m r) k) (sym (t.each r)) (covers_self (m r)) }

pub reports_takes : (n : ℕ) (map : List Kind) (m : ℕ → Kind) → Reports n map m → Takes n map m
reports_takes n map m t = record { wide = t.wide; each = λ r. subst (λ k. fits k (m r) ≡ true) (sym (t.each r)) (covers_fits (m r) (m r) (covers_self (m r))) }

-- what is reported of kinds that say less
pub takes_less : (n : ℕ) (map : List Kind) (m l : ℕ → Kind) → Takes n map l → ((r : ℕ) → fits (l r) (m r) ≡ true) → Takes n map m
takes_less n map m l t less = record { wide = t.wide; each = λ r. fits_on (at map r) (l r) (m r) (t.each r) (less r) }
