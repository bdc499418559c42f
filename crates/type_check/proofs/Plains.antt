-- The list of the types of data types without parameters, type by type.
use Rattle.std.proofs.Common.{◌≡◌, ℕ, zero, suc, ◌+◌, ◌<◌, ◌≤◌, List, [], ◌∷◌, length, set, get_or, drop, Option, Some, None, Bool, true, false, refl, sym, ap, subst, ◌∙◌, arith, add-one}
use Rattle.std.specs.Prelude.{slice_get, ◌==◌, if◌then◌else◌}
use Rattle.std.proofs.lemmas.Bool.Decides.{nat_tests}
use Rattle.type_check.specs.Found.{known, or_found}
use Rattle.type_check.specs.World.{is_number, narrow, numbered, first_declared, plain_in}
use Rattle.type_check.specs.Plain.{nothing, nothing_of, put_first, put_plain}
use Rattle.fip_language.proofs.Facts.{same_number as same_is}
pub use Rattle.fip_language.proofs.Facts.{get_any as index_same}

pub put_here : (fs : List (Option ℕ)) (d : ℕ) (t x : Option ℕ) → d < length fs → set fs d (or_found (get_or fs d x) t) ≡ put_first fs d t
put_here [] d t x h = absurd (omega arith)
put_here (o ∷ os) zero t x h = refl
put_here (o ∷ os) (suc d) t x h = ap (λ (r : List (Option ℕ)). o ∷ r) (put_here os d t x (omega arith))

pub put_past : (fs : List (Option ℕ)) (d : ℕ) (t : Option ℕ) → length fs ≤ d → fs ≡ put_first fs d t
put_past [] d t h = refl
put_past (o ∷ os) zero t h = absurd (omega arith)
put_past (o ∷ os) (suc d) t h = ap (λ (r : List (Option ℕ)). o ∷ r) (put_past os d t (omega arith))

length_put : (fs : List (Option ℕ)) (d : ℕ) (t : Option ℕ) → length (put_first fs d t) ≡ length fs
length_put [] d t = refl
length_put (o ∷ os) zero t = refl
length_put (o ∷ os) (suc d) t = ap suc (length_put os d t)

length_if : (b : Bool) (fs gs : List (Option ℕ)) → length gs ≡ length fs → length (if b then gs else fs) ≡ length fs
length_if true fs gs h = h
length_if false fs gs h = refl

pub length_plain : (arities : List ℕ) (e n : ℕ) (fs : List (Option ℕ)) → length (put_plain arities e n fs) ≡ length fs
length_plain arities e n fs = length_if (is_number (numbered arities e) 0) fs (put_first fs e (narrow n)) (length_put fs e (narrow n))

length_nothing_of : (as' : List ℕ) → length (nothing_of as') ≡ length as'
length_nothing_of [] = refl
length_nothing_of (a ∷ as') = ap suc (length_nothing_of as')

pub length_nothing : (as' : List ℕ) → length (nothing as') ≡ suc (length as')
length_nothing as' = ap suc (length_nothing_of as')

none_at : (as' : List ℕ) (d : ℕ) → known (slice_get (nothing_of as') d) ≡ None
none_at [] d = refl
none_at (a ∷ as') zero = refl
none_at (a ∷ as') (suc d) = none_at as' d

pub none_found : (as' : List ℕ) (d : ℕ) → known (slice_get (nothing as') d) ≡ None
none_found as' zero = refl
none_found as' (suc d) = none_at as' d

pub nothing_next : (as' : List ℕ) (i : ℕ) → i < length as' → nothing_of (drop i as') ≡ None ∷ nothing_of (drop (i + 1) as')
nothing_next [] i h = absurd (omega arith)
nothing_next (a ∷ as') zero h = refl
nothing_next (a ∷ as') (suc i) h = nothing_next as' i (omega arith) ∙ ap (λ k. None ∷ nothing_of (drop k as')) (add-one i) ∙ sym (ap (λ k. None ∷ nothing_of (drop k (a ∷ as'))) (add-one (suc i)))

put_there : (fs : List (Option ℕ)) (d : ℕ) (t : Option ℕ) → d < length fs → known (slice_get (put_first fs d t) d) ≡ or_found (known (slice_get fs d)) t
put_there [] d t h = absurd (omega arith)
put_there (o ∷ os) zero t h = refl
put_there (o ∷ os) (suc d) t h = put_there os d t (omega arith)

suc_apart : (a b : ℕ) → (suc a == suc b) ≡ false → (a == b) ≡ false
suc_apart a b h = grind (arith, nat_tests)

same_zero : (0 == 0) ≡ false → ⊥
same_zero h = absurd (cc)

put_other : (fs : List (Option ℕ)) (e d : ℕ) (t : Option ℕ) → (e == d) ≡ false → known (slice_get (put_first fs e t) d) ≡ known (slice_get fs d)
put_other [] e d t h = refl
put_other (o ∷ os) zero zero t h = absurd (same_zero h)
put_other (o ∷ os) zero (suc d) t h = refl
put_other (o ∷ os) (suc e) zero t h = refl
put_other (o ∷ os) (suc e) (suc d) t h = put_other os e d t (suc_apart e d h)

number_in : (arities : List ℕ) (m : ℕ) → is_number (slice_get arities m) 0 ≡ true → m < length arities
number_in [] m h = absurd (cc)
number_in (a ∷ as') zero h = omega arith
number_in (a ∷ as') (suc m) h = let r = number_in as' m h in omega arith

plain_below : (arities : List ℕ) (e : ℕ) → is_number (numbered arities e) 0 ≡ true → e < suc (length arities)
plain_below arities zero h = absurd (cc)
plain_below arities (suc m) h = let r = number_in arities m h in omega arith

either_first : (a b c : Option ℕ) → or_found (or_found a b) c ≡ or_found a (or_found b c)
either_first (Some t) b c = refl
either_first None b c = refl

-- one type more, at the number of the data type that declares it
plain_here : (b : Bool) (arities rest : List ℕ) (fs : List (Option ℕ)) (n d : ℕ) → is_number (numbered arities d) 0 ≡ b → length fs ≡ suc (length arities) →
    or_found (known (slice_get (if b then put_first fs d (narrow n) else fs) d)) (if b then first_declared rest (suc n) d else None) ≡ or_found (known (slice_get fs d)) (if b then or_found (narrow n) (first_declared rest (suc n) d) else None)
plain_here true arities rest fs n d h l =
    let e = plain_below arities d h in
    ap (λ o. or_found o (first_declared rest (suc n) d)) (put_there fs d (narrow n) (omega arith)) ∙ either_first (known (slice_get fs d)) (narrow n) (first_declared rest (suc n) d)
plain_here false arities rest fs n d h l = refl

-- and at any other
plain_there : (b : Bool) (fs : List (Option ℕ)) (e d : ℕ) (t : Option ℕ) → (e == d) ≡ false → known (slice_get (if b then put_first fs e t else fs) d) ≡ known (slice_get fs d)
plain_there true fs e d t h = put_other fs e d t h
plain_there false fs e d t h = refl

abbrev Step : List ℕ → List ℕ → List (Option ℕ) → ℕ → ℕ → ℕ → Bool → Type 0
Step arities rest fs n e d c = or_found (known (slice_get (put_plain arities e n fs) d)) (plain_in arities rest (suc n) d) ≡ or_found (known (slice_get fs d)) (if is_number (numbered arities d) 0 then or_found (if c then narrow n else None) (first_declared rest (suc n) d) else None)

step_by : (c : Bool) (arities rest : List ℕ) (fs : List (Option ℕ)) (n e d : ℕ) → (e == d) ≡ c → length fs ≡ suc (length arities) → Step arities rest fs n e d c
step_by true arities rest fs n e d h l = subst (λ x. Step arities rest fs n x d true) (sym (same_is e d h)) (plain_here (is_number (numbered arities d) 0) arities rest fs n d refl l)
step_by false arities rest fs n e d h l = ap (λ o. or_found o (plain_in arities rest (suc n) d)) (plain_there (is_number (numbered arities e) 0) fs e d (narrow n) h)

plain_step : (arities rest : List ℕ) (fs : List (Option ℕ)) (n e d : ℕ) → length fs ≡ suc (length arities) → or_found (known (slice_get (put_plain arities e n fs) d)) (plain_in arities rest (suc n) d) ≡ or_found (known (slice_get fs d)) (plain_in arities (e ∷ rest) n d)
plain_step arities rest fs n e d l = step_by (e == d) arities rest fs n e d refl l

-- what is found with what is still to be found
abbrev pub Will : List ℕ → List ℕ → ℕ → List (Option ℕ) → ℕ → Option ℕ
Will arities rest n fs d = or_found (known (slice_get fs d)) (plain_in arities rest n d)

pub will_step : (arities declaring : List ℕ) (fs gs : List (Option ℕ)) (i j e d : ℕ) → i < length declaring → e ≡ get_or declaring i e → length fs ≡ suc (length arities) → j ≡ i → gs ≡ put_plain arities e (j + 1) fs → Will arities (drop (i + 1) declaring) (i + 1 + 1) gs d ≡ Will arities (drop i declaring) (i + 1) fs d
will_step arities declaring fs gs i j e d h g l q k =
    let x = plain_step arities (drop (i + 1) declaring) fs (i + 1) e d l in
    ap (λ gs. Will arities (drop (i + 1) declaring) (i + 1 + 1) gs d) (k ∙ ap (λ j. put_plain arities e (j + 1) fs) q)
    ∙ ap (λ n. Will arities (drop (i + 1) declaring) n (put_plain arities e (i + 1) fs) d) (add-one (i + 1))
    ∙ x
    ∙ sym (ap (λ es. Will arities es (i + 1) fs d) (first_item declaring i e h g))
  where
    first_item : (es : List ℕ) (i e : ℕ) → i < length es → e ≡ get_or es i e → drop i es ≡ e ∷ drop (i + 1) es
    first_item [] i e h g = absurd (omega arith)
    first_item (x ∷ es) zero e h g = ap (λ (y : ℕ). y ∷ es) (sym g)
    first_item (x ∷ es) (suc i) e h g = first_item es i e (omega arith) g ∙ ap (λ k. e ∷ drop k es) (add-one i) ∙ sym (ap (λ k. e ∷ drop k (x ∷ es)) (add-one (suc i)))

or_none : (o : Option ℕ) → or_found o None ≡ o
or_none None = refl
or_none (Some t) = refl

abbrev no_type : Option ℕ
no_type = None

if_none : (b : Bool) → (if b then no_type else no_type) ≡ no_type
if_none true = refl
if_none false = refl

-- all types are seen
pub will_end : (arities : List ℕ) (n : ℕ) (fs : List (Option ℕ)) (d : ℕ) → Will arities [] n fs d ≡ known (slice_get fs d)
will_end arities n fs d = ap (or_found (known (slice_get fs d))) (if_none (is_number (numbered arities d) 0)) ∙ or_none (known (slice_get fs d))
