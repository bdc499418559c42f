-- Names that are looked for among others.
use Rattle.std.proofs.Common.{◌≡◌, ◌∙◌, ℕ, zero, suc, ◌+◌, ◌<◌, ◌≤◌, Bool, true, false, not, ◌&&◌, List, [], ◌∷◌, ◌++◌, length, drop, get_or, if◌then◌else◌, refl, sym, ap, subst, arith}
use Rattle.std.specs.Borrow.{Bor}
use Rattle.fip_language.specs.Core.{Name}
use Rattle.fip_language.specs.Declarations.{same_name}
use Rattle.fip_language.specs.Every.{times, one_if_named}
use Rattle.session_lines.specs.Said.{names_of}
use Rattle.fip_session.specs.Planned.{names_given, names_used}
use Rattle.fip_session.specs.declared.plan.Given.{Given}
pub use Rattle.fip_language.proofs.Facts.{not_true}

one_named : (m n : Name) (b : Bool) → same_name m n ≡ b → one_if_named m n ≡ (if b then 1 else 0)
one_named m n b e = ap (λ (t : Bool). if t then 1 else 0) e

-- ---- among all names

pub found_at : (m : Name) (ns : List (Bor (List ℕ))) (i : ℕ) (d : Bor (List ℕ)) → i < length ns → same_name m (get_or ns i d).now ≡ true → times m (names_of (drop i ns)) ≡ times m (names_of ns) → 0 < times m (names_of ns)
found_at m ns i d lt e h = by (times m (names_of ns)) h (here ns i lt e)
  where
    here : (ns : List (Bor (List ℕ))) (i : ℕ) → i < length ns → same_name m (get_or ns i d).now ≡ true → 0 < times m (names_of (drop i ns))
    here [] i lt e = absurd (let z : ⊥ = omega (arith, lt) in z)
    here (n ∷ ns) zero lt e = let o = one_named m n.now true e in omega (arith, o)
    here (n ∷ ns) (suc i) lt e = here ns i (omega (arith, lt)) e

    by : (k : ℕ) → times m (names_of (drop i ns)) ≡ k → 0 < times m (names_of (drop i ns)) → 0 < k
    by k e some = omega (arith, e, some)

pub past_at : (m : Name) (ns : List (Bor (List ℕ))) (i : ℕ) (d : Bor (List ℕ)) → i < length ns → same_name m (get_or ns i d).now ≡ false → times m (names_of (drop (i + 1) ns)) ≡ times m (names_of (drop i ns))
past_at m ns i d lt e = ap (λ k. times m (names_of (drop k ns))) (let z : i + 1 ≡ suc i = omega arith in z) ∙ by ns i lt e
  where
    by : (ns : List (Bor (List ℕ))) (i : ℕ) → i < length ns → same_name m (get_or ns i d).now ≡ false → times m (names_of (drop (suc i) ns)) ≡ times m (names_of (drop i ns))
    by [] i lt e = absurd (let z : ⊥ = omega (arith, lt) in z)
    by (n ∷ ns) zero lt e = let o = one_named m n.now false e in omega (arith, o)
    by (n ∷ ns) (suc i) lt e = by ns i (omega (arith, lt)) e

pub none_at_end : (m : Name) (ns : List (Bor (List ℕ))) (i : ℕ) → length ns ≤ i → times m (names_of (drop i ns)) ≡ times m (names_of ns) → times m (names_of ns) ≡ 0
none_at_end m ns i le h = sym h ∙ by ns i le
  where
    by : (ns : List (Bor (List ℕ))) (i : ℕ) → length ns ≤ i → times m (names_of (drop i ns)) ≡ 0
    by [] zero le = refl
    by [] (suc i) le = refl
    by (n ∷ ns) zero le = absurd (let z : ⊥ = omega (arith, le) in z)
    by (n ∷ ns) (suc i) le = by ns i (omega (arith, le))

-- ---- among those that are given

pub given_at : (m : Name) (gs : List Given) (i : ℕ) (d : Given) → i < length gs → same_name m (get_or gs i d).name.now ≡ true → times m (names_given (drop i gs)) ≡ times m (names_given gs) → 0 < times m (names_given gs)
given_at m gs i d lt e h = by (times m (names_given gs)) h (here gs i lt e)
  where
    here : (gs : List Given) (i : ℕ) → i < length gs → same_name m (get_or gs i d).name.now ≡ true → 0 < times m (names_given (drop i gs))
    here [] i lt e = absurd (let z : ⊥ = omega (arith, lt) in z)
    here (g ∷ gs) zero lt e = let o = one_named m g.name.now true e in omega (arith, o)
    here (g ∷ gs) (suc i) lt e = here gs i (omega (arith, lt)) e

    by : (k : ℕ) → times m (names_given (drop i gs)) ≡ k → 0 < times m (names_given (drop i gs)) → 0 < k
    by k e some = omega (arith, e, some)

pub past_given : (m : Name) (gs : List Given) (i : ℕ) (d : Given) → i < length gs → same_name m (get_or gs i d).name.now ≡ false → times m (names_given (drop (i + 1) gs)) ≡ times m (names_given (drop i gs))
past_given m gs i d lt e = ap (λ k. times m (names_given (drop k gs))) (let z : i + 1 ≡ suc i = omega arith in z) ∙ by gs i lt e
  where
    by : (gs : List Given) (i : ℕ) → i < length gs → same_name m (get_or gs i d).name.now ≡ false → times m (names_given (drop (suc i) gs)) ≡ times m (names_given (drop i gs))
    by [] i lt e = absurd (let z : ⊥ = omega (arith, lt) in z)
    by (g ∷ gs) zero lt e = let o = one_named m g.name.now false e in omega (arith, o)
    by (g ∷ gs) (suc i) lt e = by gs i (omega (arith, lt)) e

pub none_given : (m : Name) (gs : List Given) (i : ℕ) → length gs ≤ i → times m (names_given (drop i gs)) ≡ times m (names_given gs) → times m (names_given gs) ≡ 0
none_given m gs i le h = sym h ∙ by gs i le
  where
    by : (gs : List Given) (i : ℕ) → length gs ≤ i → times m (names_given (drop i gs)) ≡ 0
    by [] zero le = refl
    by [] (suc i) le = refl
    by (g ∷ gs) zero le = absurd (let z : ⊥ = omega (arith, le) in z)
    by (g ∷ gs) (suc i) le = by gs i (omega (arith, le))

-- ---- among those that are used up

one_used : (m : Name) (g : Given) (gs : List Given) (b : Bool) → (g.is_used_up && same_name m g.name.now) ≡ b → times m (names_used (g ∷ gs)) ≡ (if b then 1 else 0) + times m (names_used gs)
one_used m g gs b e = by g.is_used_up b e
  where
    by : (u b : Bool) → (u && same_name m g.name.now) ≡ b → times m ((if u then g.name.now ∷ [] else []) ++ names_used gs) ≡ (if b then 1 else 0) + times m (names_used gs)
    by true b e = let o = one_named m g.name.now b e in omega (arith, o)
    by false true e = absurd (let z = e in cc)
    by false false e = omega arith

pub used_at : (m : Name) (gs : List Given) (i : ℕ) (d : Given) → i < length gs → ((get_or gs i d).is_used_up && same_name m (get_or gs i d).name.now) ≡ true → times m (names_used (drop i gs)) ≡ times m (names_used gs) → 0 < times m (names_used gs)
used_at m gs i d lt e h = by (times m (names_used gs)) h (here gs i lt e)
  where
    here : (gs : List Given) (i : ℕ) → i < length gs → ((get_or gs i d).is_used_up && same_name m (get_or gs i d).name.now) ≡ true → 0 < times m (names_used (drop i gs))
    here [] i lt e = absurd (let z : ⊥ = omega (arith, lt) in z)
    here (g ∷ gs) zero lt e = let o = one_used m g gs true e in omega (arith, o)
    here (g ∷ gs) (suc i) lt e = here gs i (omega (arith, lt)) e

    by : (k : ℕ) → times m (names_used (drop i gs)) ≡ k → 0 < times m (names_used (drop i gs)) → 0 < k
    by k e some = omega (arith, e, some)

pub past_used : (m : Name) (gs : List Given) (i : ℕ) (d : Given) → i < length gs → ((get_or gs i d).is_used_up && same_name m (get_or gs i d).name.now) ≡ false → times m (names_used (drop (i + 1) gs)) ≡ times m (names_used (drop i gs))
past_used m gs i d lt e = ap (λ k. times m (names_used (drop k gs))) (let z : i + 1 ≡ suc i = omega arith in z) ∙ by gs i lt e
  where
    by : (gs : List Given) (i : ℕ) → i < length gs → ((get_or gs i d).is_used_up && same_name m (get_or gs i d).name.now) ≡ false → times m (names_used (drop (suc i) gs)) ≡ times m (names_used (drop i gs))
    by [] i lt e = absurd (let z : ⊥ = omega (arith, lt) in z)
    by (g ∷ gs) zero lt e = let o = one_used m g gs false e in omega (arith, o)
    by (g ∷ gs) (suc i) lt e = by gs i (omega (arith, lt)) e

pub none_used : (m : Name) (gs : List Given) (i : ℕ) → length gs ≤ i → times m (names_used (drop i gs)) ≡ times m (names_used gs) → times m (names_used gs) ≡ 0
none_used m gs i le h = sym h ∙ by gs i le
  where
    by : (gs : List Given) (i : ℕ) → length gs ≤ i → times m (names_used (drop i gs)) ≡ 0
    by [] zero le = refl
    by [] (suc i) le = refl
    by (g ∷ gs) zero le = absurd (let z : ⊥ = omega (arith, le) in z)
    by (g ∷ gs) (suc i) le = by gs i (omega (arith, le))
