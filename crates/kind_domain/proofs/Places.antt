-- Kinds by their places: what a change of one, and of each in a list of registers, makes of all.
use Rattle.std.proofs.Common.{◌≡◌, ℕ, zero, suc, ◌+◌, ◌<◌, ◌≤◌, inl, inr, List, [], ◌∷◌, length, drop, map, set, get_or, refl, sym, ap, ◌∙◌, arith}
use Rattle.std.specs.Prelude.{true, ◌==◌, slice_index}
use Rattle.std.proofs.lemmas.Bool.Decides.{eqb_tells}
use Rattle.cell_code.specs.declared.kind.Kind.{Kind}
use Rattle.cell_code.specs.declared.kind.Kind.TheVariants.{Gone}
use Rattle.code_rules.specs.Kinds.{at, has}
use Rattle.kind_domain.specs.declared.known.Known.{Known}
use Rattle.kind_domain.specs.Views.{kind_of, kinds_of}
use Rattle.fip_base.proofs.fip_language.Facts.{or_first, or_last as or_second}

pub at_set_same : (ks : List Kind) (d : ℕ) (k : Kind) → d < length ks → at (set ks d k) d ≡ k
at_set_same [] d k h = absurd (omega arith)
at_set_same (x ∷ ks) zero k h = refl
at_set_same (x ∷ ks) (suc d) k h = at_set_same ks d k (omega arith)

pub at_set_other : (ks : List Kind) (d q : ℕ) (k : Kind) → (d ≡ q → ⊥) → at (set ks d k) q ≡ at ks q
at_set_other [] d q k h = refl
at_set_other (x ∷ ks) zero zero k h = absurd (h refl)
at_set_other (x ∷ ks) zero (suc q) k h = refl
at_set_other (x ∷ ks) (suc d) zero k h = refl
at_set_other (x ∷ ks) (suc d) (suc q) k h = at_set_other ks d q k (λ e. h (ap suc e))

pub at_set_gone : (ks : List Kind) (d : ℕ) → at (set ks d Gone) d ≡ Gone
at_set_gone [] d = refl
at_set_gone (x ∷ ks) zero = refl
at_set_gone (x ∷ ks) (suc d) = at_set_gone ks d

pub at_set_own : (f : Kind → Kind) → f Gone ≡ Gone → (ks : List Kind) (d : ℕ) →
    at (set ks d (f (at ks d))) d ≡ f (at ks d)
at_set_own f e [] d = sym e
at_set_own f e (x ∷ ks) zero = refl
at_set_own f e (x ∷ ks) (suc d) = at_set_own f e ks d

pub set_same : (ks : List Kind) (d : ℕ) → set ks d (at ks d) ≡ ks
set_same [] d = refl
set_same (x ∷ ks) zero = refl
set_same (x ∷ ks) (suc d) = ap (λ r. x ∷ r) (set_same ks d)

pub set_past : (ks : List Kind) (d : ℕ) (k : Kind) → length ks ≤ d → set ks d k ≡ ks
set_past [] d k h = refl
set_past (x ∷ ks) zero k h = absurd (omega arith)
set_past (x ∷ ks) (suc d) k h = ap (λ r. x ∷ r) (set_past ks d k (omega arith))

pub at_past : (ks : List Kind) (d : ℕ) → length ks ≤ d → at ks d ≡ Gone
at_past [] d h = refl
at_past (x ∷ ks) zero h = absurd (omega arith)
at_past (x ∷ ks) (suc d) h = at_past ks d (omega arith)

pub at_map : (f : Kind → Kind) → f Gone ≡ Gone → (ks : List Kind) (q : ℕ) → at (map f ks) q ≡ f (at ks q)
at_map f e [] q = sym e
at_map f e (x ∷ ks) zero = refl
at_map f e (x ∷ ks) (suc q) = at_map f e ks q

pub same_at : (xs ys : List Kind) → length xs ≡ length ys → ((q : ℕ) → at xs q ≡ at ys q) → xs ≡ ys
same_at [] [] e h = refl
same_at [] (y ∷ ys) e h = absurd (omega arith)
same_at (x ∷ xs) [] e h = absurd (omega arith)
same_at (x ∷ xs) (y ∷ ys) e h =
    let a = h 0 in let b = same_at xs ys (omega arith) (λ q. h (suc q)) in cc

pub set_long : (ks : List Kind) (d : ℕ) (k : Kind) → length (set ks d k) ≡ length ks
set_long [] d k = refl
set_long (x ∷ ks) zero k = refl
set_long (x ∷ ks) (suc d) k = ap suc (set_long ks d k)

pub map_long : (f : Kind → Kind) (ks : List Kind) → length (map f ks) ≡ length ks
map_long f [] = refl
map_long f (x ∷ ks) = ap suc (map_long f ks)

-- kinds kept as vectors

pub kinds_set : (ks : List Known) (d : ℕ) (k : Known) → kinds_of (set ks d k) ≡ set (kinds_of ks) d (kind_of k)
kinds_set [] d k = refl
kinds_set (x ∷ ks) zero k = refl
kinds_set (x ∷ ks) (suc d) k = ap (λ r. kind_of x ∷ r) (kinds_set ks d k)

pub kinds_past : (ks : List Known) (d : ℕ) (k : Kind) → length ks ≤ d → set (kinds_of ks) d k ≡ kinds_of ks
kinds_past [] d k h = refl
kinds_past (x ∷ ks) zero k h = absurd (omega arith)
kinds_past (x ∷ ks) (suc d) k h = ap (λ r. kind_of x ∷ r) (kinds_past ks d k (omega arith))

pub kinds_get : (ks : List Known) (d : ℕ) (k : Known) → d < length ks → at (kinds_of ks) d ≡ kind_of (get_or ks d k)
kinds_get [] d k h = absurd (omega arith)
kinds_get (x ∷ ks) zero k h = refl
kinds_get (x ∷ ks) (suc d) k h = kinds_get ks d k (omega arith)

pub kinds_none : (ks : List Known) (d : ℕ) → length ks ≤ d → at (kinds_of ks) d ≡ Gone
kinds_none [] d h = refl
kinds_none (x ∷ ks) zero h = absurd (omega arith)
kinds_none (x ∷ ks) (suc d) h = kinds_none ks d (omega arith)

pub kinds_long : (ks : List Known) → length (kinds_of ks) ≡ length ks
kinds_long [] = refl
kinds_long (x ∷ ks) = ap suc (kinds_long ks)

-- a loop over a list, by index

pub drop_index : (xs : List ℕ) (i : ℕ) → i < length xs → drop i xs ≡ slice_index xs i ∷ drop (i + 1) xs
drop_index [] i h = absurd (omega arith)
drop_index (x ∷ xs) zero h = refl
drop_index (x ∷ xs) (suc i) h =
    let e : suc (i + 1) ≡ suc i + 1 = (omega arith) in
    drop_index xs i (omega arith) ∙ ap (λ n. slice_index xs i ∷ drop n (x ∷ xs)) e

pub has_index : (xs : List ℕ) (i : ℕ) → i < length xs → has xs (slice_index xs i) ≡ true
has_index [] i h = absurd (omega arith)
has_index (x ∷ xs) zero h =
    elim (eqb_tells x x) [ inl e ↦ or_first (x == x) (has xs x) e.0 | inr e ↦ absurd (e.1 refl) ]
has_index (x ∷ xs) (suc i) h =
    or_second (x == slice_index xs i) (has xs (slice_index xs i)) (has_index xs i (omega arith))
