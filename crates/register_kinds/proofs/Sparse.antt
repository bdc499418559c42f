-- All kinds fit a label map where those do of which it says more than Gone, and as many may not be overwritten.
use Rattle.std.proofs.Common.{◌≡◌, ℕ, zero, suc, ◌+◌, ◌<◌, ◌≤◌, List, [], ◌∷◌, ◌++◌, length, drop, get_or, set, refl, sym, ap, ◌∙◌, subst, arith}
use Rattle.std.specs.Prelude.{Bool, true, false, ◌&&◌, ◌==◌, Option, Some}
use Rattle.std.proofs.lemmas.Bool.{eq-eqb, ne_eqb}
use Rattle.kind_domain.specs.cell_code.declared.kind.Kind.{Kind}
use Rattle.kind_domain.specs.cell_code.declared.kind.Kind.TheVariants.{Gone, Scalar, Owned, Lent, Credit}
use Rattle.kind_domain.specs.code_rules.Kinds.{at, is_credit_of, is_free, is_scalar_of}
use Rattle.kind_domain.specs.code_rules.Fitting.{fits, fit_all}
use Rattle.register_kinds.specs.declared.fits.Tested.{Tested}
use Rattle.register_kinds.specs.Arrivals.{lessened, lacked_at, arrive, fits_at, each_fits}
use Rattle.kind_domain.specs.declared.asked.Ask.{Ask}
use Rattle.kind_domain.specs.declared.asked.Asked.{Asked}
use Rattle.kind_domain.specs.declared.asked.Says.{Says}
use Rattle.kind_domain.specs.declared.asked.Says.TheVariants as S
use Rattle.kind_domain.specs.Busy.{AllSay, IsAsked, asks_from, busy_in, held, registers_of, says_of}
use Rattle.register_kinds.proofs.Arriving.{arrive_long}
use Rattle.register_kinds.proofs.Less.{credit, scalar}
use Rattle.kind_domain.proofs.fip_language.Facts.{and_both as and_parts, both_true as and_all, same_both_ways as same_if, same_number}
use Rattle.register_kinds.proofs.Less.{free as less_free}

-- the registers of which a map says more than Gone

abbrev asks : Kind → Bool
asks Gone = false
asks (Scalar t) = true
asks (Owned t s) = true
asks (Lent t s root from) = true
asks (Credit k) = true

abbrev place_by : Bool → ℕ → List ℕ
place_by true i = i ∷ []
place_by false i = []

abbrev asked_from : ℕ → List Kind → List ℕ
asked_from i [] = []
asked_from i (k ∷ ks) = place_by (asks k) i ++ asked_from (suc i) ks

registers_from : (i : ℕ) (ms : List Kind) → registers_of (asks_from i ms) ≡ asked_from i ms
registers_from i [] = refl
registers_from i (Gone ∷ ms) = registers_from (suc i) ms
registers_from i (Scalar t ∷ ms) = ap (λ z. i ∷ z) (registers_from (suc i) ms)
registers_from i (Owned t s ∷ ms) = ap (λ z. i ∷ z) (registers_from (suc i) ms)
registers_from i (Lent t s root from ∷ ms) = ap (λ z. i ∷ z) (registers_from (suc i) ms)
registers_from i (Credit k ∷ ms) = ap (λ z. i ∷ z) (registers_from (suc i) ms)

-- one register

abbrev one_by : Bool → Bool → Bool
one_by true x = x
one_by false x = true

-- the registers fit of which the map says more than Gone
abbrev asked_fit : List Kind → List Kind → Bool
asked_fit [] ks = true
asked_fit (m ∷ ms) [] = true
asked_fit (m ∷ ms) (k ∷ ks) = one_by (asks m) (fits m k) && asked_fit ms ks

fits_busy : (m k : Kind) → asks m ≡ true → fits m k ≡ true → held (is_free k) ≡ held (is_free m)
fits_busy Gone k e f = absurd (cc)
fits_busy (Scalar t) Gone e f = absurd (cc)
fits_busy (Scalar t) (Scalar u) e f = refl
fits_busy (Scalar t) (Owned u z) e f = absurd (cc)
fits_busy (Scalar t) (Lent u z root2 from2) e f = absurd (cc)
fits_busy (Scalar t) (Credit n2) e f = absurd (cc)
fits_busy (Owned t s) Gone e f = absurd (cc)
fits_busy (Owned t s) (Scalar u) e f = absurd (cc)
fits_busy (Owned t s) (Owned u z) e f = refl
fits_busy (Owned t s) (Lent u z root2 from2) e f = absurd (cc)
fits_busy (Owned t s) (Credit n2) e f = absurd (cc)
fits_busy (Lent t s root from) Gone e f = absurd (cc)
fits_busy (Lent t s root from) (Scalar u) e f = absurd (cc)
fits_busy (Lent t s root from) (Owned u z) e f = absurd (cc)
fits_busy (Lent t s root from) (Lent u z root2 from2) e f = refl
fits_busy (Lent t s root from) (Credit n2) e f = absurd (cc)
fits_busy (Credit n) Gone e f = absurd (cc)
fits_busy (Credit n) (Scalar u) e f = absurd (cc)
fits_busy (Credit n) (Owned u z) e f = absurd (cc)
fits_busy (Credit n) (Lent u z root2 from2) e f = absurd (cc)
fits_busy (Credit n) (Credit n2) e f = refl

held_few : (b : Bool) → 0 ≤ held b
held_few b = omega arith

one_least : (m k : Kind) → one_by (asks m) (fits m k) ≡ true → held (is_free m) ≤ held (is_free k)
one_least Gone k e = held_few (is_free k)
one_least (Scalar t) k e = let h = fits_busy (Scalar t) k refl e in omega arith
one_least (Owned t s) k e = let h = fits_busy (Owned t s) k refl e in omega arith
one_least (Lent t s root from) k e = let h = fits_busy (Lent t s root from) k refl e in omega arith
one_least (Credit n) k e = let h = fits_busy (Credit n) k refl e in omega arith

free_by : (b : Bool) → held b ≡ 0 → b ≡ true
free_by true e = refl
free_by false e = absurd (omega arith)

one_fits : (m k : Kind) → one_by (asks m) (fits m k) ≡ true → held (is_free k) ≡ held (is_free m) → fits m k ≡ true
one_fits Gone k e h = free_by (is_free k) h
one_fits (Scalar t) k e h = e
one_fits (Owned t s) k e h = e
one_fits (Lent t s root from) k e h = e
one_fits (Credit n) k e h = e

fit_one : (m k : Kind) → fits m k ≡ true → one_by (asks m) (fits m k) ≡ true
fit_one Gone k e = refl
fit_one (Scalar t) k e = e
fit_one (Owned t s) k e = e
fit_one (Lent t s root from) k e = e
fit_one (Credit n) k e = e

fit_busy : (m k : Kind) → fits m k ≡ true → held (is_free k) ≡ held (is_free m)
fit_busy Gone k e = ap held e
fit_busy (Scalar t) k e = fits_busy (Scalar t) k refl e
fit_busy (Owned t s) k e = fits_busy (Owned t s) k refl e
fit_busy (Lent t s root from) k e = fits_busy (Lent t s root from) k refl e
fit_busy (Credit n) k e = fits_busy (Credit n) k refl e

-- all registers

at_least : (ms ks : List Kind) → length ms ≡ length ks → asked_fit ms ks ≡ true → busy_in ms ≤ busy_in ks
at_least [] ks l e = omega arith
at_least (m ∷ ms) [] l e = absurd (omega arith)
at_least (m ∷ ms) (k ∷ ks) l e =
    let p = and_parts (one_by (asks m) (fits m k)) (asked_fit ms ks) e in
    let a = one_least m k p.0 in
    let b = at_least ms ks (omega arith) p.1 in
    omega arith

all_from : (ms ks : List Kind) → length ms ≡ length ks → busy_in ks ≡ busy_in ms → asked_fit ms ks ≡ true →
    fit_all ms ks ≡ true
all_from [] [] l h e = refl
all_from [] (k ∷ ks) l h e = absurd (omega arith)
all_from (m ∷ ms) [] l h e = absurd (omega arith)
all_from (m ∷ ms) (k ∷ ks) l h e =
    let p = and_parts (one_by (asks m) (fits m k)) (asked_fit ms ks) e in
    let a = one_least m k p.0 in
    let b = at_least ms ks (omega arith) p.1 in
    and_all (fits m k) (fit_all ms ks) (one_fits m k p.0 (omega arith))
    (all_from ms ks (omega arith) (omega arith) p.1)

record IsBoth (ms ks : List Kind) : Type 0 where
  pub busy : busy_in ks ≡ busy_in ms
  pub fit : asked_fit ms ks ≡ true

both_from : (ms ks : List Kind) → fit_all ms ks ≡ true → IsBoth ms ks
both_from [] [] e = record { busy = refl; fit = refl }
both_from [] (k ∷ ks) e = absurd (cc)
both_from (m ∷ ms) [] e = absurd (cc)
both_from (m ∷ ms) (k ∷ ks) e =
    let p = and_parts (fits m k) (fit_all ms ks) e in
    let a = fit_busy m k p.0 in
    let b = both_from ms ks p.1 in
    record {
      busy = (let d = b.busy in omega arith);
      fit = and_all (one_by (asks m) (fits m k)) (asked_fit ms ks) (fit_one m k p.0) b.fit;
    }

asked_all : (ms ks : List Kind) → length ms ≡ length ks →
    ((busy_in ks == busy_in ms) && asked_fit ms ks) ≡ fit_all ms ks
asked_all ms ks l =
    same_if ((busy_in ks == busy_in ms) && asked_fit ms ks) (fit_all ms ks)
    (λ e. let p = and_parts (busy_in ks == busy_in ms) (asked_fit ms ks) e in
    all_from ms ks l (same_number (busy_in ks) (busy_in ms) p.0) p.1)
    (λ e. let b = both_from ms ks e in
    and_all (busy_in ks == busy_in ms) (asked_fit ms ks) (eq-eqb (busy_in ks) (busy_in ms) b.busy) b.fit)

-- by places

each_step : (b : Bool) (t : Option Tested) (ms ks : List Kind) (i : ℕ) (rest : List ℕ) →
    each_fits t ms ks (place_by b i ++ rest) ≡ (one_by b (fits_at t ms ks i) && each_fits t ms ks rest)
each_step true t ms ks i rest = refl
each_step false t ms ks i rest = refl

here : (xs ys : List Kind) (i : ℕ) → ((q : ℕ) → at xs (i + q) ≡ at ys q) → at xs i ≡ at ys 0
here xs ys i h = let e : i ≡ i + 0 = (omega arith) in ap (at xs) e ∙ h 0

later : (xs ys : List Kind) (y : Kind) (i : ℕ) → ((q : ℕ) → at xs (i + q) ≡ at (y ∷ ys) q) → (q : ℕ) →
    at xs (suc i + q) ≡ at ys q
later xs ys y i h q = let e : suc i + q ≡ i + suc q = (omega arith) in ap (at xs) e ∙ h (suc q)

each_asked : (t : Option Tested) (all_ms all_ks ms ks : List Kind) (i : ℕ) → length ms ≡ length ks →
    ((q : ℕ) → at all_ms (i + q) ≡ at ms q) → ((q : ℕ) → at all_ks (i + q) ≡ at ks q) →
    each_fits t all_ms all_ks (asked_from i ms) ≡ asked_fit ms (arrive t i ks)
each_asked t all_ms all_ks [] [] i l h g = refl
each_asked t all_ms all_ks [] (k ∷ ks) i l h g = absurd (omega arith)
each_asked t all_ms all_ks (m ∷ ms) [] i l h g = absurd (omega arith)
each_asked t all_ms all_ks (m ∷ ms) (k ∷ ks) i l h g =
    each_step (asks m) t all_ms all_ks i (asked_from (suc i) ms)
    ∙ ap (λ z. one_by (asks m) (fits z (lessened (lacked_at t i) (at all_ks i)))
    && each_fits t all_ms all_ks (asked_from (suc i) ms)) (here all_ms (m ∷ ms) i h)
    ∙ ap (λ z. one_by (asks m) (fits m (lessened (lacked_at t i) z))
    && each_fits t all_ms all_ks (asked_from (suc i) ms)) (here all_ks (k ∷ ks) i g)
    ∙ ap (λ z. one_by (asks m) (fits m (lessened (lacked_at t i) k)) && z)
    (each_asked t all_ms all_ks ms ks (suc i) (omega arith) (later all_ms ms m i h) (later all_ks ks k i g))

arrive_busy : (t : Option Tested) (i : ℕ) (ks : List Kind) → busy_in (arrive t i ks) ≡ busy_in ks
arrive_busy t i [] = refl
arrive_busy t i (k ∷ ks) =
    ap (λ b. held b + busy_in (arrive t (suc i) ks)) (less_free (lacked_at t i) k)
    ∙ ap (λ n. held (is_free k) + n) (arrive_busy t (suc i) ks)

at_plus : (ks : List Kind) (q : ℕ) → at ks (0 + q) ≡ at ks q
at_plus ks q = let e : 0 + q ≡ q = (omega arith) in ap (at ks) e

sparse : (t : Option Tested) (ms ks : List Kind) (places : List ℕ) (b a : ℕ) → length ms ≡ length ks →
    b ≡ busy_in ks → a ≡ busy_in ms → places ≡ asked_from 0 ms →
    ((b == a) && each_fits t ms ks places) ≡ fit_all ms (arrive t 0 ks)
sparse t ms ks places b a l e f g =
    ap (λ z. (z == a) && each_fits t ms ks places) (e ∙ sym (arrive_busy t 0 ks))
    ∙ ap (λ z. (busy_in (arrive t 0 ks) == z) && each_fits t ms ks places) f
    ∙ ap (λ z. (busy_in (arrive t 0 ks) == busy_in ms) && z) (ap (each_fits t ms ks) g
    ∙ each_asked t ms ks ms ks 0 l (at_plus ms) (at_plus ks))
    ∙ asked_all ms (arrive t 0 ks) (l ∙ sym (arrive_long t 0 ks))

pub sparse_then : (t : Option Tested) (ms ks : List Kind) (xs : List Ask) (b a : ℕ) → length ms ≡ length ks →
    b ≡ busy_in ks → a ≡ busy_in ms → xs ≡ asks_from 0 ms → b ≡ a →
    each_fits t ms ks (registers_of xs) ≡ fit_all ms (arrive t 0 ks)
sparse_then t ms ks xs b a l e f g h =
    sym (ap (λ z. z && each_fits t ms ks (registers_of xs)) (eq-eqb b a h))
    ∙ sparse t ms ks (registers_of xs) b a l e f (ap registers_of g ∙ registers_from 0 ms)

pub sparse_else : (t : Option Tested) (ms ks : List Kind) (b a : ℕ) → length ms ≡ length ks → b ≡ busy_in ks →
    a ≡ busy_in ms → (b ≡ a → ⊥) → (b == a) ≡ fit_all ms (arrive t 0 ks)
sparse_else t ms ks b a l e f h =
    ne_eqb b a h ∙ sym (ap (λ z. z && each_fits t ms ks (asked_from 0 ms)) (ne_eqb b a h))
    ∙ sparse t ms ks (asked_from 0 ms) b a l e f refl

-- what a label map says

say_from : (all ms : List Kind) (i : ℕ) → ((q : ℕ) → at all (i + q) ≡ at ms q) → AllSay all (asks_from i ms)
say_from all [] i h = tt
say_from all (Gone ∷ ms) i h = say_from all ms (suc i) (later all ms Gone i h)
say_from all (Scalar t ∷ ms) i h =
    (ap says_of (here all (Scalar t ∷ ms) i h), say_from all ms (suc i) (later all ms (Scalar t) i h))
say_from all (Owned t s ∷ ms) i h =
    (ap says_of (here all (Owned t s ∷ ms) i h), say_from all ms (suc i) (later all ms (Owned t s) i h))
say_from all (Lent t s root from ∷ ms) i h =
    (ap says_of (here all (Lent t s root from ∷ ms) i h), say_from all ms (suc i) (later all ms (Lent t s root from) i h))
say_from all (Credit k ∷ ms) i h =
    (ap says_of (here all (Credit k ∷ ms) i h), say_from all ms (suc i) (later all ms (Credit k) i h))

pub said_by : (ms : List Kind) (a : Asked) → IsAsked ms a → AllSay ms a.asks.items
said_by ms a h = subst (AllSay ms) (sym h.asks) (say_from ms ms 0 (at_plus ms))

scalar_said : (m : Kind) (u : ℕ) → says_of m ≡ Some (S.Scalar u) → m ≡ Scalar u
scalar_said Gone u e = absurd (cc)
scalar_said (Scalar t) u e = let f : t ≡ u = (cc) in ap (λ z. Scalar z) f
scalar_said (Owned t s) u e = absurd (cc)
scalar_said (Lent t s root from) u e = absurd (cc)
scalar_said (Credit k) u e = absurd (cc)

credit_said : (m : Kind) (u : ℕ) → says_of m ≡ Some (S.Credit u) → m ≡ Credit u
credit_said Gone u e = absurd (cc)
credit_said (Scalar t) u e = absurd (cc)
credit_said (Owned t s) u e = absurd (cc)
credit_said (Lent t s root from) u e = absurd (cc)
credit_said (Credit k) u e = let f : k ≡ u = (cc) in ap (λ z. Credit z) f

pub scalar_fits : (t : Option Tested) (ms ks : List Kind) (q u : ℕ) (k : Kind) (b : Bool) (s : Says) →
    says_of (at ms q) ≡ Some s → s ≡ S.Scalar u → b ≡ is_scalar_of u k → k ≡ at ks q → b ≡ fits_at t ms ks q
scalar_fits t ms ks q u k b s h i e f =
    e ∙ ap (is_scalar_of u) f ∙ sym (scalar u (lacked_at t q) (at ks q))
    ∙ ap (λ m. fits m (lessened (lacked_at t q) (at ks q))) (sym (scalar_said (at ms q) u (h ∙ ap (λ z. Some z) i)))

pub credit_fits : (t : Option Tested) (ms ks : List Kind) (q u : ℕ) (k : Kind) (b : Bool) (s : Says) →
    says_of (at ms q) ≡ Some s → s ≡ S.Credit u → b ≡ is_credit_of u k → k ≡ at ks q → b ≡ fits_at t ms ks q
credit_fits t ms ks q u k b s h i e f =
    e ∙ ap (is_credit_of u) f ∙ sym (credit u (lacked_at t q) (at ks q))
    ∙ ap (λ m. fits m (lessened (lacked_at t q) (at ks q))) (sym (credit_said (at ms q) u (h ∙ ap (λ z. Some z) i)))

pub next_ask : (xs : List Ask) (i : ℕ) (x d : Ask) → i < length xs → x ≡ get_or xs i d →
    drop i xs ≡ x ∷ drop (i + 1) xs
next_ask [] i x d h e = absurd (omega arith)
next_ask (y ∷ xs) zero x d h e = ap (λ z. z ∷ xs) (sym e)
next_ask (y ∷ xs) (suc i) x d h e =
    let n : suc (i + 1) ≡ suc i + 1 = (omega arith) in
    next_ask xs i x d (omega arith) e ∙ ap (λ n. x ∷ drop n (y ∷ xs)) n

-- a register changes

pub record Rest (ks : List Kind) (d : ℕ) : Type 0 where
  pub rest : ℕ
  pub is : busy_in ks ≡ held (is_free (at ks d)) + rest
  pub after : (k : Kind) → busy_in (set ks d k) ≡ held (is_free k) + rest

pub rest_of : (ks : List Kind) (d : ℕ) → d < length ks → Rest ks d
rest_of [] d h = absurd (omega arith)
rest_of (x ∷ ks) zero h = record { rest = busy_in ks; is = refl; after = λ k. refl }
rest_of (x ∷ ks) (suc d) h =
    let r = rest_of ks d (omega arith) in
    record {
      rest = held (is_free x) + r.rest;
      is = (let e = r.is in omega arith);
      after = λ k. (let e = r.after k in omega arith);
    }

held_most : (b : Bool) → held b ≤ 1
held_most true = omega arith
held_most false = omega arith

pub busy_few : (ks : List Kind) → busy_in ks ≤ length ks
busy_few [] = omega arith
busy_few (k ∷ ks) = let a = held_most (is_free k) in let b = busy_few ks in omega arith
