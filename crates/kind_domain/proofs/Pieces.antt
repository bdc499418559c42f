-- Rising lists that begin alike, and searches among the first numbers of a rising list.
use Rattle.std.proofs.Common.{◌≡◌, ℕ, zero, suc, ◌+◌, ◌-◌, ◌<◌, ◌≤◌, inl, inr, List, [], ◌∷◌, length, drop, take, get_or, refl, sym, ap, ◌∙◌, subst, arith}
use Rattle.std.specs.Prelude.{Bool, true, false, Option}
use Rattle.std.proofs.lemmas.Bool.{lt-ltb, le-ltb}
use Rattle.code_rules.specs.Kinds.{has}
use Rattle.code_rules.specs.Fitting.{is_subset}
use Rattle.kind_domain.specs.Rising.{RiseFrom, Rise, less, beyond, is_one}
use Rattle.kind_domain.proofs.Sets.{has_none, has_at, rise_order}
use Rattle.kind_domain.proofs.Subsets.{above_found, among_skip, less_has, one_more, own_first, rise_less}
use Rattle.fip_base.proofs.fip_language.Facts.{less_or_not as below_or, take_length}

beyond_all : (n : ℕ) (xs : List ℕ) → RiseFrom (suc n) xs → beyond n xs ≡ xs
beyond_all n [] r = refl
beyond_all n (y ∷ ys) r = let g = r.0 in rw (lt-ltb n y (omega arith)) refl

beyond_first : (x : ℕ) (xs : List ℕ) → RiseFrom (suc x) xs → beyond x (x ∷ xs) ≡ xs
beyond_first x xs r = rw (le-ltb x x (omega arith)) (beyond_all x xs r)

-- the first of both is one number
alike_one : (o : Option ℕ) (b : Bool) (x : ℕ) (own others : List ℕ) → is_one o x ≡ b → RiseFrom (suc x) own →
    RiseFrom (suc x) others → is_subset (less o own) others ≡ is_subset (less o (x ∷ own)) (x ∷ others)
alike_one o true x own others e r s =
    ap (is_subset (less o own)) (sym (beyond_first x others s))
    ∙ less_has own (suc x) o x (x ∷ others) r (omega arith)
    ∙ ap (λ z. is_subset z (x ∷ others)) (among_skip o x own e)
alike_one o false x own others e r s =
    one_more o x (x ∷ others) others own e (own_first x others, sym (beyond_first x others s)) r

-- What begins alike is left out of both.
alike_from : (o : Option ℕ) (n low a : ℕ) (own others : List ℕ) → RiseFrom low own → RiseFrom a others →
    take n own ≡ take n others → n ≤ length own →
    is_subset (less o (drop n own)) (drop n others) ≡ is_subset (less o own) others
alike_from o zero low a own others r s e h = refl
alike_from o (suc n) low a [] others r s e h = absurd (omega arith)
alike_from o (suc n) low a (x ∷ own) [] r s e h = absurd (cc)
alike_from o (suc n) low a (x ∷ own) (y ∷ others) r s e h =
    let f : x ≡ y = (cc) in
    let g : take n own ≡ take n others = (cc) in
    alike_from o n (suc x) (suc y) own others r.1 s.1 g (omega arith)
    ∙ subst (λ z. is_subset (less o own) others ≡ is_subset (less o (x ∷ own)) (z ∷ others)) f
    (alike_one o (is_one o x) x own others refl r.1 (subst (λ z. RiseFrom (suc z) others) (sym f) s.1))

drop_nothing : (n : ℕ) → drop {A = ℕ} n [] ≡ []
drop_nothing zero = refl
drop_nothing (suc n) = refl

drop_more : (m n : ℕ) (xs : List ℕ) → drop n (drop m xs) ≡ drop (m + n) xs
drop_more zero n xs = let e : n ≡ 0 + n = (omega arith) in ap (λ z. drop z xs) e
drop_more (suc m) n [] = drop_nothing n ∙ sym (drop_nothing (suc m + n))
drop_more (suc m) n (x ∷ xs) =
    let e : suc (m + n) ≡ suc m + n = (omega arith) in drop_more m n xs ∙ ap (λ z. drop z (x ∷ xs)) e

drop_length : (m : ℕ) (xs : List ℕ) → m ≤ length xs → length (drop m xs) ≡ length xs - m
drop_length zero xs h = (omega arith)
drop_length (suc m) [] h = absurd (omega arith)
drop_length (suc m) (x ∷ xs) h = drop_length m xs (omega arith) ∙ (omega arith)

pub alike : (o : Option ℕ) (start end : ℕ) (own others : List ℕ) → start ≤ end → end ≤ length own →
    Rise (drop start own) → Rise others →
    take (length (take (end - start) (drop start own))) others ≡ take (end - start) (drop start own) →
    is_subset (less o (drop end own)) (drop (end - start) others) ≡ is_subset (less o (drop start own)) others
alike o start end own others h k r s e =
    let l = drop_length start own (omega arith) in
    let t = take_length (end - start) (drop start own) (omega arith) in
    let u : start + (end - start) ≡ end = (omega arith) in
    ap (λ z. is_subset (less o z) (drop (end - start) others))
    (sym (drop_more start (end - start) own ∙ ap (λ z. drop z own) u))
    ∙ alike_from o (end - start) 0 0 (drop start own) others r s
    (sym (ap (λ z. take z others) (sym t) ∙ e)) (omega arith)

pub rise_drop : (n low : ℕ) (xs : List ℕ) → RiseFrom low xs → RiseFrom low (drop n xs)
rise_drop zero low xs r = r
rise_drop (suc n) low [] r = r
rise_drop (suc n) low (x ∷ xs) r =
    rise_drop n low xs (rise_less low (suc x) xs (let g = r.0 in omega arith) r.1)

pub rise_take : (n low : ℕ) (xs : List ℕ) → RiseFrom low xs → RiseFrom low (take n xs)
rise_take zero low xs r = tt
rise_take (suc n) low [] r = tt
rise_take (suc n) low (x ∷ xs) r = (r.0, rise_take n (suc x) xs r.1)

-- one number more that is alike

next_alike : (xs ys : List ℕ) (i : ℕ) → i < length xs → i < length ys → take i xs ≡ take i ys →
    get_or xs i 0 ≡ get_or ys i 0 → take (suc i) xs ≡ take (suc i) ys
next_alike [] ys i h k e f = absurd (omega arith)
next_alike (x ∷ xs) [] i h k e f = absurd (omega arith)
next_alike (x ∷ xs) (y ∷ ys) zero h k e f = let g : x ≡ y = f in ap (λ z. z ∷ []) g
next_alike (x ∷ xs) (y ∷ ys) (suc i) h k e f =
    let g : x ≡ y = (cc) in
    let t : take i xs ≡ take i ys = (cc) in
    ap (λ z. z ∷ take (suc i) xs) g ∙ ap (λ z. y ∷ z) (next_alike xs ys i (omega arith) (omega arith) t f)

pub one_alike : (xs ys : List ℕ) (i : ℕ) → i < length xs → i < length ys → take i xs ≡ take i ys →
    get_or xs i 0 ≡ get_or ys i 0 → take (i + 1) xs ≡ take (i + 1) ys
one_alike xs ys i h k e f =
    let s : i + 1 ≡ suc i = (omega arith) in
    subst (λ z. take z xs ≡ take z ys) (sym s) (next_alike xs ys i h k e f)

-- a search among the first numbers

take_get : (n k : ℕ) (xs : List ℕ) → k < n → get_or (take n xs) k 0 ≡ get_or xs k 0
take_get zero k xs h = absurd (omega arith)
take_get (suc n) k [] h = refl
take_get (suc n) zero (x ∷ xs) h = refl
take_get (suc n) (suc k) (x ∷ xs) h = take_get n k xs (omega arith)

pub near_found : (n i x : ℕ) (xs : List ℕ) → Rise xs → n ≤ length xs → i < length (take n xs) →
    get_or (take n xs) i 0 ≡ x → (has xs x ≡ true) × (drop (i + 1) xs ≡ beyond x xs)
near_found n i x xs r h l e =
    let t = take_length n xs h in
    let g : get_or xs i 0 ≡ x = (sym (take_get n i xs (omega arith)) ∙ e) in
    (has_at xs i x (omega arith) g, above_found xs x i r (omega arith) g)

pub near_none : (n i x : ℕ) (xs : List ℕ) → Rise xs → n ≤ length xs → (n < length xs → x < get_or xs n 0) →
    ((k : ℕ) → k < i → get_or (take n xs) k 0 < x) →
    ((k : ℕ) → i ≤ k → k < length (take n xs) → x < get_or (take n xs) k 0) → has xs x ≡ false
near_none n i x xs r h g a b =
    let t = take_length n xs h in
    has_none xs x (λ k l e. elim (below_or k n) [
      | inl u ↦ (let v = take_get n k xs u in elim (below_or k i) [
        | inl w ↦ (let y = a k w in omega arith)
        | inr w ↦ (let y = b k w (omega arith) in omega arith)
      ])
      | inr u ↦ (let v = g (omega arith) in let y = rise_order 0 xs r n k u l in omega arith)
    ])
