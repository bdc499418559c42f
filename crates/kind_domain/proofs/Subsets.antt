-- Numbers of a rising list, and whether others are among them.
use Rattle.std.proofs.Common.{◌≡◌, ℕ, zero, suc, ◌+◌, ◌-◌, ◌<◌, ◌≤◌, ◌⊎◌, inl, inr, List, [], ◌∷◌, length, drop, get_or, refl, sym, ap, ◌∙◌, subst, arith}
use Rattle.std.specs.Prelude.{Bool, true, false, ◌||◌, ◌&&◌, ◌==◌, Option, Some, None, Result, Ok, Err, MatchResult}
use Rattle.std.proofs.lemmas.Bool.{eq-eqb, ne_eqb, lt-ltb, le-ltb}
use Rattle.std.proofs.lemmas.Bool.Decides.{eqb_tells}
use Rattle.code_rules.specs.Kinds.{has}
use Rattle.code_rules.specs.Types.{numbers}
use Rattle.code_rules.specs.Changes.{without}
use Rattle.code_rules.specs.Fitting.{is_subset}
use Rattle.kind_domain.specs.Rising.{RiseFrom, Rise, less, beyond, is_one}
use Rattle.fip_base.proofs.fip_language.Facts.{and_both as and_parts, both_true as and_all, get_any, less_or_last as same_or_less, less_or_not as below_or}
pub use Rattle.fip_base.proofs.fip_language.Facts.{or_last as or_more}
use Rattle.kind_domain.proofs.Sets.{numbers_within as in_numbers}

pub numbers_rise : (i n : ℕ) → RiseFrom i (numbers i n)
numbers_rise i zero = tt
numbers_rise i (suc n) = ((omega arith), numbers_rise (suc i) n)

pub rise_less : (a b : ℕ) (xs : List ℕ) → a ≤ b → RiseFrom b xs → RiseFrom a xs
rise_less a b [] h r = tt
rise_less a b (x ∷ xs) h r = ((let g = r.0 in omega arith), r.1)

pub rise_rest : (low x : ℕ) (xs : List ℕ) → RiseFrom low (x ∷ xs) → RiseFrom low xs
rise_rest low x xs r = rise_less low (suc x) xs (let g = r.0 in omega arith) r.1

rise_high : (low : ℕ) (xs : List ℕ) (j : ℕ) → RiseFrom low xs → j < length xs → low + j ≤ get_or xs j 0
rise_high low [] j r h = absurd (omega arith)
rise_high low (x ∷ xs) zero r h = let g = r.0 in omega arith
rise_high low (x ∷ xs) (suc j) r h = let g = rise_high (suc x) xs j r.1 (omega arith) in let k = r.0 in omega arith

none_below : (low b : ℕ) (xs : List ℕ) → RiseFrom low xs → b < low → has xs b ≡ false
none_below low b [] r h = refl
none_below low b (x ∷ xs) r h =
    let g = r.0 in
    ap (λ c. c || has xs b) (ne_eqb x b (λ e. omega arith)) ∙ none_below (suc x) b xs r.1 (omega arith)

or_true : (b : Bool) → (b || true) ≡ true
or_true true = refl
or_true false = refl

subset_more : (cs xs : List ℕ) (x : ℕ) → is_subset cs xs ≡ true → is_subset cs (x ∷ xs) ≡ true
subset_more [] xs x e = refl
subset_more (a ∷ cs) xs x e =
    let p = and_parts (has xs a) (is_subset cs xs) e in
    and_all (has (x ∷ xs) a) (is_subset cs (x ∷ xs)) (or_more (x == a) (has xs a) p.0) (subset_more cs xs x p.1)

-- those that are greater don't meet a smaller first
subset_less : (x low m : ℕ) (ys : List ℕ) → x < low →
    is_subset (numbers low m) (x ∷ ys) ≡ is_subset (numbers low m) ys
subset_less x low zero ys h = refl
subset_less x low (suc m) ys h =
    ap (λ c. (c || has ys low) && is_subset (numbers (suc low) m) (x ∷ ys)) (ne_eqb x low (λ e. omega arith))
    ∙ ap (λ c. has ys low && c) (subset_less x (suc low) m ys (omega arith))

pub begins_subset : (low j : ℕ) (xs : List ℕ) → RiseFrom low xs → j < length xs → get_or xs j 0 ≡ low + j →
    is_subset (numbers low (suc j)) xs ≡ true
begins_subset low j [] r h e = absurd (omega arith)
begins_subset low zero (x ∷ xs) r h e =
    and_all (has (x ∷ xs) low) true (ap (λ c. c || has xs low) (eq-eqb x low (omega arith))) refl
begins_subset low (suc j) (x ∷ xs) r h e =
    let g = rise_high (suc x) xs j r.1 (omega arith) in
    let k = r.0 in
    let s : x ≡ low = (omega arith) in
    and_all (has (x ∷ xs) low) (is_subset (numbers (suc low) (suc j)) (x ∷ xs))
    (ap (λ c. c || has xs low) (eq-eqb x low s))
    (subset_more (numbers (suc low) (suc j)) xs x
    (begins_subset (suc low) j xs (rise_less (suc low) (suc x) xs (omega arith) r.1) (omega arith) (omega arith)))

first_is : (low x : ℕ) (xs : List ℕ) → RiseFrom low (x ∷ xs) → has (x ∷ xs) low ≡ true → x ≡ low
first_is low x xs r e =
    elim (eqb_tells x low) [
      | inl g ↦ g.1
      | inr g ↦ (let k = r.0 in let n = none_below (suc x) low xs r.1 (omega arith) in
          let f = (rw g.0 at e) in absurd (cc))
    ]

pub subset_begins : (low m j : ℕ) (xs : List ℕ) → RiseFrom low xs → is_subset (numbers low m) xs ≡ true → j < m →
    (j < length xs) × (get_or xs j 0 ≡ low + j)
subset_begins low zero j xs r e h = absurd (omega arith)
subset_begins low (suc m) j [] r e h = absurd (cc)
subset_begins low (suc m) zero (x ∷ xs) r e h =
    let p = and_parts (has (x ∷ xs) low) (is_subset (numbers (suc low) m) (x ∷ xs)) e in
    let s = first_is low x xs r p.0 in
    ((omega arith), (omega arith))
subset_begins low (suc m) (suc j) (x ∷ xs) r e h =
    let p = and_parts (has (x ∷ xs) low) (is_subset (numbers (suc low) m) (x ∷ xs)) e in
    let s = first_is low x xs r p.0 in
    let q = subset_begins (suc low) m j xs (rise_less (suc low) (suc x) xs (omega arith) r.1)
    (sym (subset_less x (suc low) m xs (omega arith)) ∙ p.1) (omega arith) in
    let q0 = q.0 in
    let q1 = q.1 in
    ((omega arith), (omega arith))

not_then : (b : Bool) → (b ≡ true → ⊥) → false ≡ b
not_then true h = absurd (h refl)
not_then false h = refl

pub begin_none : (low n : ℕ) (xs : List ℕ) → RiseFrom low xs → 0 < n → length xs ≤ n - 1 →
    false ≡ is_subset (numbers low n) xs
begin_none low n xs r p h =
    not_then (is_subset (numbers low n) xs)
    (λ e. let g = subset_begins low n (n - 1) xs r e (omega arith) in let k = g.0 in omega arith)

pub begin_some : (low n x d : ℕ) (b : Bool) (xs : List ℕ) → RiseFrom low xs → 0 < n → n - 1 < length xs →
    x ≡ get_or xs (n - 1) d → (b ≡ true → x ≡ low + (n - 1)) → (b ≡ false → x ≡ low + (n - 1) → ⊥) →
    b ≡ is_subset (numbers low n) xs
begin_some low n x d true xs r p l e y z =
    let f = y refl in
    let g = get_any xs (n - 1) d 0 l in
    let s : suc (n - 1) ≡ n = (omega arith) in
    sym (ap (λ k. is_subset (numbers low k) xs) (sym s) ∙ begins_subset low (n - 1) xs r l (omega arith))
begin_some low n x d false xs r p l e y z =
    not_then (is_subset (numbers low n) xs)
    (λ g. let h = subset_begins low n (n - 1) xs r g (omega arith) in let k = h.1 in
    let i = get_any xs (n - 1) d 0 l in z refl (omega arith))

-- without one

without_less : (c low n : ℕ) → c < low → without c (numbers low n) ≡ numbers low n
without_less c low zero h = refl
without_less c low (suc n) h =
    rw (ne_eqb low c (λ e. omega arith)) (ap (λ xs. low ∷ xs) (without_less c (suc low) n (omega arith)))

pub without_more : (c low n : ℕ) → low + n ≤ c → without c (numbers low n) ≡ numbers low n
without_more c low zero h = refl
without_more c low (suc n) h =
    rw (ne_eqb low c (λ e. omega arith)) (ap (λ xs. low ∷ xs) (without_more c (suc low) n (omega arith)))

and_assoc : (a b c : Bool) → (a && (b && c)) ≡ ((a && b) && c)
and_assoc true b c = refl
and_assoc false b c = refl

-- with d numbers below the one that is left out
without_parts : (low d n : ℕ) (xs : List ℕ) → d < n →
    is_subset (without (low + d) (numbers low n)) xs
    ≡ (is_subset (numbers low d) xs && is_subset (numbers (suc (low + d)) (n - suc d)) xs)
without_parts low d zero xs h = absurd (omega arith)
without_parts low zero (suc n) xs h =
    rw (eq-eqb low (low + 0) (omega arith)) (ap (λ z. is_subset z xs) (without_less (low + 0) (suc low) n (omega arith))
    ∙ ap (λ z. is_subset (numbers (suc z) n) xs) (omega arith)
    ∙ ap (λ z. is_subset (numbers (suc (low + 0)) z) xs) (omega arith))
without_parts low (suc d) (suc n) xs h =
    rw (ne_eqb low (low + suc d) (λ e. omega arith))
    (ap (λ z. has xs low && is_subset (without z (numbers (suc low) n)) xs) (omega arith)
    ∙ ap (λ z. has xs low && z) (without_parts (suc low) d n xs (omega arith))
    ∙ and_assoc (has xs low) (is_subset (numbers (suc low) d) xs) (is_subset (numbers (suc (suc low + d)) (n - suc d)) xs)
    ∙ ap (λ z. (has xs low && is_subset (numbers (suc low) d) xs) && is_subset (numbers (suc z) (n - suc d)) xs)
    (omega arith)
    ∙ ap (λ z. (has xs low && is_subset (numbers (suc low) d) xs) && is_subset (numbers (suc (low + suc d)) z) xs)
    (omega arith))

pub but_one : (d n : ℕ) (xs : List ℕ) → d < n →
    is_subset (without d (numbers 0 n)) xs
    ≡ (is_subset (numbers 0 d) xs && is_subset (numbers (d + 1) (n - d - 1)) xs)
but_one d n xs h =
    ap (λ z. is_subset (without z (numbers 0 n)) xs) (omega arith) ∙ without_parts 0 d n xs h
    ∙ ap (λ z. is_subset (numbers 0 d) xs && is_subset (numbers z (n - suc d)) xs) (omega arith)
    ∙ ap (λ z. is_subset (numbers 0 d) xs && is_subset (numbers (d + 1) z) xs) (omega arith)

pub but_one_with : (b : Bool) (d n : ℕ) (xs : List ℕ) → d < n → b ≡ is_subset (numbers 0 d) xs →
    (b && is_subset (numbers (d + 1) (n - d - 1)) xs) ≡ is_subset (without d (numbers 0 n)) xs
but_one_with b d n xs h e =
    ap (λ z. z && is_subset (numbers (d + 1) (n - d - 1)) xs) e ∙ sym (but_one d n xs h)

-- beyond a number

pub has_beyond : (n y : ℕ) (xs : List ℕ) → n < y → has (beyond n xs) y ≡ has xs y
has_beyond n y [] h = refl
has_beyond n y (x ∷ xs) h =
    elim (below_or n x) [
      | inl g ↦ rw (lt-ltb n x g) refl
      | inr g ↦ rw (le-ltb n x g)
          (has_beyond n y xs h ∙ sym (ap (λ c. c || has xs y) (ne_eqb x y (λ e. omega arith))))
    ]

pub numbers_beyond : (n low k : ℕ) (xs : List ℕ) → n < low →
    is_subset (numbers low k) (beyond n xs) ≡ is_subset (numbers low k) xs
numbers_beyond n low zero xs h = refl
numbers_beyond n low (suc k) xs h =
    ap (λ c. c && is_subset (numbers (suc low) k) (beyond n xs)) (has_beyond n low xs h)
    ∙ ap (λ c. has xs low && c) (numbers_beyond n (suc low) k xs (omega arith))

pub rise_beyond : (low n : ℕ) (xs : List ℕ) → RiseFrom low xs → RiseFrom (suc n) (beyond n xs)
rise_beyond low n [] r = tt
rise_beyond low n (x ∷ xs) r =
    elim (below_or n x) [
      | inl g ↦ rw (lt-ltb n x g) (g, r.1)
      | inr g ↦ rw (le-ltb n x g) (rise_beyond (suc x) n xs r.1)
    ]

pub rise_at_beyond : (n : ℕ) (xs : List ℕ) → Rise xs → RiseFrom (n + 1) (beyond n xs)
rise_at_beyond n xs r = subst (λ z. RiseFrom z (beyond n xs)) (omega arith) (rise_beyond 0 n xs r)

-- Where a list is cut between those that aren't greater and those that are, the second part is beyond.
pub cut_beyond : (n p : ℕ) (xs : List ℕ) → ((k : ℕ) → k < p → k < length xs → get_or xs k 0 ≤ n) →
    ((k : ℕ) → p ≤ k → k < length xs → n < get_or xs k 0) → drop p xs ≡ beyond n xs
cut_beyond n zero [] a b = refl
cut_beyond n (suc p) [] a b = refl
cut_beyond n zero (x ∷ xs) a b = rw (lt-ltb n x (b 0 (omega arith) (omega arith))) refl
cut_beyond n (suc p) (x ∷ xs) a b =
    rw (le-ltb n x (a 0 (omega arith) (omega arith)))
    (cut_beyond n p xs (λ k h l. a (suc k) (omega arith) (omega arith))
    (λ k h l. b (suc k) (omega arith) (omega arith)))

-- a rising list among another

pub less_has : (own : List ℕ) (low : ℕ) (lacked : Option ℕ) (n : ℕ) (xs : List ℕ) → RiseFrom low own → n < low →
    is_subset (less lacked own) (beyond n xs) ≡ is_subset (less lacked own) xs
less_has [] low None n xs r h = refl
less_has [] low (Some c) n xs r h = refl
less_has (x ∷ own) low None n xs r h =
    let g = r.0 in
    ap (λ c. c && is_subset own (beyond n xs)) (has_beyond n x xs (omega arith))
    ∙ ap (λ c. has xs x && c) (less_has own (suc x) None n xs r.1 (omega arith))
less_has (x ∷ own) low (Some c) n xs r h =
    let g = r.0 in
    elim (eqb_tells x c) [
      | inl e ↦ rw e.0 (less_has own (suc x) (Some c) n xs r.1 (omega arith))
      | inr e ↦ rw e.0 (ap (λ b. b && is_subset (without c own) (beyond n xs)) (has_beyond n x xs (omega arith))
          ∙ ap (λ b. has xs x && b) (less_has own (suc x) (Some c) n xs r.1 (omega arith)))
    ]

less_cons : (lacked : Option ℕ) (x : ℕ) (own : List ℕ) → is_one lacked x ≡ false →
    less lacked (x ∷ own) ≡ x ∷ less lacked own
less_cons None x own e = refl
less_cons (Some c) x own e = rw e refl

-- The next is found: what is left is looked for beyond it.
pub among_next : (lacked : Option ℕ) (x low : ℕ) (own xs : List ℕ) → RiseFrom low (x ∷ own) →
    is_one lacked x ≡ false → has xs x ≡ true →
    is_subset (less lacked own) (beyond x xs) ≡ is_subset (less lacked (x ∷ own)) xs
among_next lacked x low own xs r e h =
    less_has own (suc x) lacked x xs r.1 (omega arith)
    ∙ sym (ap (λ z. is_subset z xs) (less_cons lacked x own e) ∙ ap (λ b. b && is_subset (less lacked own) xs) h)

pub among_none : (lacked : Option ℕ) (x : ℕ) (own xs : List ℕ) → is_one lacked x ≡ false → has xs x ≡ false →
    is_subset (less lacked (x ∷ own)) xs ≡ false
among_none lacked x own xs e h =
    ap (λ z. is_subset z xs) (less_cons lacked x own e) ∙ ap (λ b. b && is_subset (less lacked own) xs) h

pub among_skip : (lacked : Option ℕ) (x : ℕ) (own : List ℕ) → is_one lacked x ≡ true →
    less lacked own ≡ less lacked (x ∷ own)
among_skip None x own e = absurd (cc)
among_skip (Some c) x own e = rw e refl

-- a search in a rising list

rise_strict : (low : ℕ) (xs : List ℕ) → RiseFrom low xs → (i j : ℕ) → i < j → j < length xs →
    get_or xs i 0 < get_or xs j 0
rise_strict low [] r i j h k = absurd (omega arith)
rise_strict low (x ∷ xs) r i zero h k = absurd (omega arith)
rise_strict low (x ∷ xs) r zero (suc j) h k = let g = rise_high (suc x) xs j r.1 (omega arith) in omega arith
rise_strict low (x ∷ xs) r (suc i) (suc j) h k = rise_strict (suc x) xs r.1 i j (omega arith) (omega arith)

pub above_found : (xs : List ℕ) (x i : ℕ) → Rise xs → i < length xs → get_or xs i 0 ≡ x →
    drop (i + 1) xs ≡ beyond x xs
above_found xs x i r h e =
    cut_beyond x (i + 1) xs
    (λ k l m. elim (same_or_less k i l) [
      | inl g ↦ (let f = rise_strict 0 xs r k i g h in omega arith)
      | inr g ↦ (let f = ap (λ z. get_or xs z 0) g in omega arith)
    ])
    (λ k l m. let f = rise_strict 0 xs r i k (omega arith) m in omega arith)

pub above_none : (xs : List ℕ) (x i : ℕ) → ((k : ℕ) → k < i → get_or xs k 0 < x) →
    ((k : ℕ) → i ≤ k → k < length xs → x < get_or xs k 0) → drop i xs ≡ beyond x xs
above_none xs x i a b = cut_beyond x i xs (λ k l m. let f = a k l in omega arith) b

pub found_at : (xs : List ℕ) (x : ℕ) (r : Result ℕ ℕ) (j : ℕ) →
    MatchResult r (λ i. (i < length xs) × (get_or xs i 0 ≡ x)) (λ i. (i ≤ length xs)
    × ((k : ℕ) → k < i → get_or xs k 0 < x) × ((k : ℕ) → i ≤ k → k < length xs → x < get_or xs k 0)) →
    r ≡ Ok j → (j < length xs) × (get_or xs j 0 ≡ x)
found_at xs x (Ok i) j h e =
    let g : i ≡ j = (cc) in ((let a = h.0 in omega arith), ap (λ z. get_or xs z 0) (sym g) ∙ h.1)
found_at xs x (Err i) j h e = absurd (cc)

pub gap_at : (xs : List ℕ) (x : ℕ) (r : Result ℕ ℕ) (j : ℕ) →
    MatchResult r (λ i. (i < length xs) × (get_or xs i 0 ≡ x)) (λ i. (i ≤ length xs)
    × ((k : ℕ) → k < i → get_or xs k 0 < x) × ((k : ℕ) → i ≤ k → k < length xs → x < get_or xs k 0)) →
    r ≡ Err j → (j ≤ length xs) × ((k : ℕ) → k < j → get_or xs k 0 < x)
    × ((k : ℕ) → j ≤ k → k < length xs → x < get_or xs k 0)
gap_at xs x (Ok i) j h e = absurd (cc)
gap_at xs x (Err i) j h e =
    let g : i ≡ j = (cc) in
    ((let a = h.0 in omega arith), (λ k l. h.1 k (omega arith)), (λ k l m. h.2 k (omega arith) m))

pub one_more : (lacked : Option ℕ) (x : ℕ) (xs r own : List ℕ) → is_one lacked x ≡ false →
    (has xs x ≡ true) × (r ≡ beyond x xs) → RiseFrom (suc x) own →
    is_subset (less lacked own) r ≡ is_subset (less lacked (x ∷ own)) xs
one_more lacked x xs r own e h g =
    ap (is_subset (less lacked own)) h.1 ∙ among_next lacked x 0 own xs ((omega arith), g) e h.0

pub drop_one : (xs : List ℕ) (i : ℕ) → i < length xs → drop i xs ≡ get_or xs i 0 ∷ drop (i + 1) xs
drop_one [] i h = absurd (omega arith)
drop_one (x ∷ xs) zero h = refl
drop_one (x ∷ xs) (suc i) h =
    let e : suc (i + 1) ≡ suc i + 1 = (omega arith) in
    drop_one xs i (omega arith) ∙ ap (λ n. get_or xs i 0 ∷ drop n (x ∷ xs)) e

-- numbers between two

same_or_above : (low x : ℕ) → low ≤ x → (low ≡ x) ⊎ (low < x)
same_or_above low x h = grind arith

less_apart : (a b : ℕ) → a ≤ b → (a ≡ b → ⊥) → suc a ≤ b
less_apart a b h n = elim (same_or_above a b h) [ inl e ↦ absurd (n e) | inr e ↦ (omega arith) ]

pub own_first : (x : ℕ) (xs : List ℕ) → has (x ∷ xs) x ≡ true
own_first x xs = elim (eqb_tells x x) [ inl e ↦ rw e.0 refl | inr e ↦ absurd (e.1 refl) ]

no_more : (xs : List ℕ) (x : ℕ) → length xs ≡ 0 → has xs x ≡ true → ⊥
no_more [] x l e = cc
no_more (y ∷ xs) x l e = omega arith

pub subset_has : (cs xs : List ℕ) (x : ℕ) → is_subset cs xs ≡ true → has cs x ≡ true → has xs x ≡ true
subset_has [] xs x e h = absurd (cc)
subset_has (c ∷ cs) xs x e h =
    let p = and_parts (has xs c) (is_subset cs xs) e in
    elim (eqb_tells c x) [
      | inl i ↦ ap (has xs) (sym i.1) ∙ p.0
      | inr i ↦ (let f = (rw i.0 at h) in subset_has cs xs x p.1 f)
    ]

pub all_between : (low high : ℕ) (xs ys : List ℕ) (b : Bool) → has xs low ≡ true → ys ≡ beyond low xs →
    b ≡ is_subset (numbers (low + 1) (high - low)) ys → b ≡ true → (x : ℕ) → low ≤ x → x ≤ high → has xs x ≡ true
all_between low high xs ys b e f g t x h i =
    elim (same_or_above low x h) [
      | inl j ↦ ap (has xs) (sym j) ∙ e
      | inr j ↦ sym (has_beyond low x xs j) ∙ ap (λ z. has z x) (sym f)
          ∙ subset_has (numbers (low + 1) (high - low)) ys x (sym g ∙ t)
          (in_numbers (low + 1) (high - low) x (omega arith) (omega arith))
    ]

pub one_between : (low high : ℕ) (xs : List ℕ) → has xs low ≡ true → high ≤ low → (x : ℕ) → low ≤ x → x ≤ high →
    has xs x ≡ true
one_between low high xs e l x h i = let j : low ≡ x = (omega arith) in ap (has xs) (sym j) ∙ e

-- all of a list that lie between its ends

subset_plain : (own others : List ℕ) → ((x : ℕ) → has own x ≡ true → has others x ≡ true) → is_subset own others ≡ true
subset_plain [] others h = refl
subset_plain (c ∷ cs) others h =
    and_all (has others c) (is_subset cs others) (h c (own_first c cs))
    (subset_plain cs others (λ x e. h x (or_more (c == x) (has cs x) e)))

subset_without : (c : ℕ) (own others : List ℕ) → ((x : ℕ) → has own x ≡ true → (x == c) ≡ false → has others x ≡ true) →
    is_subset (without c own) others ≡ true
subset_without c [] others h = refl
subset_without c (x ∷ xs) others h =
    let rest = subset_without c xs others (λ y e n. h y (or_more (x == y) (has xs y) e) n) in
    elim (eqb_tells x c) [
      | inl i ↦ rw i.0 rest
      | inr i ↦ rw i.0 (and_all (has others x) (is_subset (without c xs) others) (h x (own_first x xs) i.0) rest)
    ]

pub subset_by : (o : Option ℕ) (own others : List ℕ) →
    ((x : ℕ) → has own x ≡ true → is_one o x ≡ false → has others x ≡ true) → is_subset (less o own) others ≡ true
subset_by None own others h = subset_plain own others (λ x e. h x e refl)
subset_by (Some c) own others h = subset_without c own others h

pub none_subset : (o : Option ℕ) (own others : List ℕ) → length own ≡ 0 → is_subset (less o own) others ≡ true
none_subset None [] others e = refl
none_subset (Some c) [] others e = refl
none_subset o (x ∷ own) others e = absurd (omega arith)

pub least_is : (low : ℕ) (xs : List ℕ) (x : ℕ) → RiseFrom low xs → has xs x ≡ true → low ≤ x
least_is low [] x r e = absurd (cc)
least_is low (y ∷ xs) x r e =
    let a = r.0 in
    elim (eqb_tells y x) [
      | inl i ↦ (let b = i.1 in omega arith)
      | inr i ↦ (let f = (rw i.0 at e) in let b = least_is (suc y) xs x r.1 f in omega arith)
    ]

pub first_least : (low : ℕ) (xs : List ℕ) (x : ℕ) → RiseFrom low xs → has xs x ≡ true → get_or xs 0 0 ≤ x
first_least low [] x r e = absurd (cc)
first_least low (y ∷ xs) x r e =
    elim (eqb_tells y x) [
      | inl i ↦ (let b = i.1 in omega arith)
      | inr i ↦ (let f = (rw i.0 at e) in let b = least_is (suc y) xs x r.1 f in omega arith)
    ]

last_at : (low : ℕ) (xs : List ℕ) (n x : ℕ) → RiseFrom low xs → length xs ≡ suc n → has xs x ≡ true → x ≤ get_or xs n 0
last_at low [] n x r l e = absurd (cc)
last_at low (y ∷ xs) zero x r l e =
    elim (eqb_tells y x) [
      | inl i ↦ (let b = i.1 in omega arith)
      | inr i ↦ (let f = (rw i.0 at e) in absurd (no_more xs x (omega arith) f))
    ]
last_at low (y ∷ xs) (suc n) x r l e =
    elim (eqb_tells y x) [
      | inl i ↦ (let b = i.1 in let c = rise_high (suc y) xs n r.1 (omega arith) in omega arith)
      | inr i ↦ (let f = (rw i.0 at e) in last_at (suc y) xs n x r.1 (omega arith) f)
    ]

pub last_most : (low : ℕ) (xs : List ℕ) (x : ℕ) → RiseFrom low xs → has xs x ≡ true →
    x ≤ get_or xs (length xs - 1) 0
last_most low [] x r e = absurd (cc)
last_most low (y ∷ xs) x r e =
    let n : length (y ∷ xs) - 1 ≡ length xs = (omega arith) in
    subst (λ z. x ≤ get_or (y ∷ xs) z 0) (sym n) (last_at low (y ∷ xs) (length xs) x r refl e)
