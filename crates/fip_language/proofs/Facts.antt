-- Facts of numbers, Booleans, options and lists that proofs of many crates use.
use Rattle.std.proofs.Common.{Bool, FitsSigned, List, None, Option, Some, [], add-one, ap, arith, drop, false, get_or, if◌then◌else◌, inl, inr, is_some, length, length-append, map, max, nat_eq, nat_le, nat_lt, neg_ℤ, negsuc, not, pos, refl, replicate, rules, set, slice_get, slice_set, suc, sym, take, true, true≢false, unsigned_abs, zero, ℕ, ℤ, ◌&&◌, ◌*◌, ◌++◌, ◌+◌, ◌-◌, ◌<◌, ◌==◌, ◌^◌, ◌||◌, ◌∙◌, ◌∷◌, ◌≡◌, ◌≢◌, ◌≤◌, ◌⊎◌}
use Rattle.std.proofs.Math.Nat.{mul-one, mul-zero}
use Rattle.std.proofs.lemmas.Bool.{cases_lt, eq-eqb, eqb-false, eqb-true, false_from_ne_true}
use Rattle.std.proofs.lemmas.Bool.Decides.{nat_tests}
use Rattle.std.proofs.lemmas.Int.{fits_signed_from_abs}
use Rattle.std.proofs.lemmas.Map.Text.{is_eq-slice_cmp}
use Rattle.std.proofs.lemmas.Option.{none-some, same_Some, slice_get-get_or, slice_get-map}
use Rattle.std.proofs.lemmas.Slice.Eq.{bytes_eq-Decides}
use Rattle.std.specs.Cmp.Lexicographic.{slice_cmp}
use Rattle.std.specs.Int.{w64}
use Rattle.std.specs.Ordering.{is_eq, nat_cmp}
use Rattle.std.specs.Prelude.{IsTrue, option_map, ◌↔◌}
use Rattle.std.specs.Str.{bytes_eq}

pub or_exchange : (l u d x : Bool) → (l || (u || (d || x))) ≡ true → (d || (u || l || x)) ≡ true
or_exchange l u true x e = refl
or_exchange l true false x e = refl
or_exchange true false false x e = refl
or_exchange false false false x e = e

pub same_and : (a b c d : Bool) → a ≡ c → b ≡ d → (a && b) ≡ (c && d)
same_and a b c d e f = cc

pub same_or : (a b c d : Bool) → a ≡ c → b ≡ d → (a || b) ≡ (c || d)
same_or a b c d e f = cc

pub and_assoc : (a b c : Bool) → ((a && b) && c) ≡ (a && (b && c))
and_assoc true b c = refl
and_assoc false b c = refl

pub or_assoc : (a b c : Bool) → (a || (b || c)) ≡ ((a || b) || c)
or_assoc true b c = refl
or_assoc false b c = refl

pub and_not_false : (k b : Bool) → (k && not b) ≡ true → b ≡ false
and_not_false true true h = absurd (cc)
and_not_false true false h = refl
and_not_false false b h = absurd (cc)

pub and_either : (a b : Bool) → (a && b) ≡ false → (a ≡ false) ⊎ (b ≡ false)
and_either true b h = inr h
and_either false b h = inl refl

pub and_both : (a b : Bool) → (a && b) ≡ true → (a ≡ true) × (b ≡ true)
and_both true b e = (refl, e)
and_both false b e = cc

pub both_left : (a b : Bool) → (a && b) ≡ true → a ≡ true
both_left true b h = refl
both_left false b h = h

pub both_right : (a b : Bool) → (a && b) ≡ true → b ≡ true
both_right true b h = h
both_right false b h = absurd (cc)

pub or_false_both : (a b : Bool) → (a || b) ≡ false → (a ≡ false) × (b ≡ false)
or_false_both true b e = cc
or_false_both false b e = (refl, e)

pub or_false_left : (a b : Bool) → (a || b) ≡ false → a ≡ false
or_false_left true b e = absurd (cc)
or_false_left false b e = refl

pub or_false_right : (a b : Bool) → (a || b) ≡ false → b ≡ false
or_false_right true b e = absurd (cc)
or_false_right false b e = e

pub or_cases : (a b : Bool) → (a || b) ≡ true → (a ≡ true) ⊎ (b ≡ true)
or_cases true b e = inl refl
or_cases false b e = inr e

pub same_both_ways : (a b : Bool) → (a ≡ true → b ≡ true) → (b ≡ true → a ≡ true) → a ≡ b
same_both_ways true b f g = sym (f refl)
same_both_ways false true f g = g refl
same_both_ways false false f g = refl

pub some_bool_same : (a b : Bool) → Some a ≡ Some b → a ≡ b
some_bool_same a b e = cc

pub and_false_first : (a b : Bool) → a ≡ false → (a && b) ≡ false
and_false_first a b e = rw e refl

pub or_false_first : (a b : Bool) → a ≡ false → (a || b) ≡ b
or_false_first true b e = absurd (cc)
or_false_first false b e = refl

pub or_false_false : (a b : Bool) → a ≡ false → b ≡ false → (a || b) ≡ false
or_false_false a b e f = cc

pub or_first : (a b : Bool) → a ≡ true → (a || b) ≡ true
or_first a b e = rw e refl

pub both_true : (a b : Bool) → a ≡ true → b ≡ true → (a && b) ≡ true
both_true a b h g = cc

pub and_false_last : (a b : Bool) → b ≡ false → (a && b) ≡ false
and_false_last true b h = h
and_false_last false b h = refl

pub if_true_else : (b x : Bool) → x ≡ true → (if b then true else x) ≡ true
if_true_else true x e = refl
if_true_else false x e = e

pub and_false : (a : Bool) → (a && false) ≡ false
and_false true = refl
and_false false = refl

pub and_not_true : (a b : Bool) → b ≡ true → (a && not b) ≡ false
and_not_true a b e = rw e (and_false a)

pub or_last : (a b : Bool) → b ≡ true → (a || b) ≡ true
or_last true b e = refl
or_last false b e = e

pub and_true : (a : Bool) → (a && true) ≡ a
and_true true = refl
and_true false = refl

pub or_false : (b : Bool) → (b || false) ≡ b
or_false true = refl
or_false false = refl

pub true_of_not_false : (b : Bool) → (b ≡ false → ⊥) → b ≡ true
true_of_not_false true h = refl
true_of_not_false false h = absurd (h refl)

pub false_of_not_true : (b : Bool) → (b ≡ true → ⊥) → b ≡ false
false_of_not_true true h = absurd (h refl)
false_of_not_true false h = refl

pub true_or_false : (b : Bool) → (b ≡ true) ⊎ (b ≡ false)
true_or_false true = inl refl
true_or_false false = inr refl

pub not_true : (b : Bool) → not b ≡ true → b ≡ false
not_true true e = cc
not_true false e = refl

pub false_of_not : (b : Bool) → true ≡ not b → b ≡ false
false_of_not true e = absurd cc
false_of_not false e = refl

pub and_true_back : (b : Bool) → b ≡ (b && true)
and_true_back true = refl
and_true_back false = refl

pub not_of : (b : Bool) → b ≡ false → not b ≡ true
not_of b e = ap not e

pub true_and_false : (b : Bool) → b ≡ true → b ≡ false → ⊥
true_and_false b e f = cc

pub sum_exchange : (A B C D : Type 0) → ((A ⊎ B) ⊎ (C ⊎ D)) → ((A ⊎ C) ⊎ (B ⊎ D))
sum_exchange A B C D (inl (inl h)) = inl (inl h)
sum_exchange A B C D (inl (inr h)) = inr (inl h)
sum_exchange A B C D (inr (inl h)) = inl (inr h)
sum_exchange A B C D (inr (inr h)) = inr (inr h)

pub sum_exchanges : (A B C D : Type 0) → ((A ⊎ B) ⊎ (C ⊎ D)) ↔ ((A ⊎ C) ⊎ (B ⊎ D))
sum_exchanges A B C D = (sum_exchange A B C D, sum_exchange A C B D)

pub abs_fits : (i : ℤ) → FitsSigned w64 i → unsigned_abs i ≤ 2 ^ 63
abs_fits (pos n) f = let h : n < 2 ^ 63 = f.sfits in omega arith
abs_fits (negsuc n) f = let h : n < 2 ^ 63 = f.sfits in omega arith

pub if_some_both : {A : Type 0} → (b : Bool) (x y : A) → (if b then Some x else None) ≡ Some y → (b ≡ true) × (x ≡ y)
if_some_both true x y e = (refl, cc)
if_some_both false x y e = cc

pub if_false : {A : Type 0} (c : Bool) (a b : A) → c ≡ false → (if c then a else b) ≡ b
if_false true a b h = cc
if_false false a b h = refl

pub if_true : {A : Type 0} (c : Bool) (a b : A) → c ≡ true → (if c then a else b) ≡ a
if_true true a b h = refl
if_true false a b h = cc

pub reflected : {P : Type 0} (b : Bool) → IsTrue b ↔ P → b ≡ true → P
reflected b h e = h.0 e

pub true_is_not_false : {A : Type 0} → (b : Bool) → b ≡ true → b ≡ false → A
true_is_not_false b h k = cc

pub same_some : {A : Type 0} (x y : A) → Some x ≡ Some y → x ≡ y
same_some x y e = cc

pub none_some : {A : Type 0} (x : A) → None ≡ Some x → ⊥
none_some x e = cc

pub same_some_implicit : {A : Type 0} {u v : A} → Some u ≡ Some v → u ≡ v
same_some_implicit e = cc

pub none_some_implicit : {A : Type 0} {x : A} → None ≡ Some x → ⊥
none_some_implicit e = absurd (cc)

pub if_some_true : (b : Bool) (n w : ℕ) → (if b then Some n else None) ≡ Some w → b ≡ true
if_some_true true n w e = refl
if_some_true false n w e = cc

pub if_sum : (b : Bool) (m n : ℕ) → (if b then m + n else 0) ≡ (if b then m else 0) + (if b then n else 0)
if_sum true m n = refl
if_sum false m n = refl

pub if_false_number : (b : Bool) (i j : ℕ) → b ≡ false → (if b then i else j) ≡ j
if_false_number true i j e = cc
if_false_number false i j e = refl

pub if_true_number : (b : Bool) (i j : ℕ) → b ≡ true → (if b then i else j) ≡ i
if_true_number true i j e = refl
if_true_number false i j e = cc

pub if_zero_mono : (b : Bool) (m n : ℕ) → m ≤ n → (if b then 0 else m) ≤ (if b then 0 else n)
if_zero_mono true m n h = omega arith
if_zero_mono false m n h = h

pub if_zero_else : (b : Bool) (n : ℕ) → b ≡ false → n ≡ (if b then 0 else n)
if_zero_else true n e = absurd (cc)
if_zero_else false n e = refl

pub if_zero_zero : (b : Bool) (n : ℕ) → n ≡ 0 → (if b then n else 0) ≡ 0
if_zero_zero true n e = e
if_zero_zero false n e = refl

pub nonempty : (n : ℕ) (b : Bool) → b ≡ (n == 0) → b ≡ false → 0 < n
nonempty zero b e f = cc
nonempty (suc n) b e f = omega arith

pub sum_same : (a b c d : ℕ) → a ≡ b → c ≡ d → a + c ≡ b + d
sum_same a b c d h k = omega arith

pub times_le : (a b k : ℕ) → a ≤ b → a * k ≤ b * k
times_le zero b k h = omega arith
times_le (suc a) zero k h = absurd (omega (arith, h))
times_le (suc a) (suc b) k h = let r = times_le a b k (omega (arith, h)) in omega (arith, r)

pub max_within : (a b d : ℕ) → a ≤ d → b ≤ d → max a b ≤ d
max_within a b d p q = omega arith

pub suc_same : (m n : ℕ) → (suc m == suc n) ≡ (m == n)
suc_same m n = grind (arith, nat_tests)

pub three_ways : (q p : ℕ) → (q < p) ⊎ ((q ≡ p) ⊎ (p < q))
three_ways zero zero = inr (inl refl)
three_ways zero (suc p) = inl (omega arith)
three_ways (suc q) zero = inr (inr (omega arith))
three_ways (suc q) (suc p) = by (three_ways q p)
  where
    by : (q < p) ⊎ ((q ≡ p) ⊎ (p < q)) → (suc q < suc p) ⊎ ((suc q ≡ suc p) ⊎ (suc p < suc q))
    by (inl h) = inl (omega (arith, h))
    by (inr (inl e)) = inr (inl (ap suc e))
    by (inr (inr h)) = inr (inr (omega (arith, h)))

pub less_or_not : (m n : ℕ) → (m < n) ⊎ (n ≤ m)
less_or_not m n = grind arith

pub unequal_apart : (x y : ℕ) → (x == y) ≡ false → x ≡ y → ⊥
unequal_apart x y h e = grind (arith, nat_tests)

pub same_number : (m n : ℕ) → (m == n) ≡ true → m ≡ n
same_number m n h = grind (arith, nat_tests)

pub unequal_false : (x y : ℕ) → (x ≡ y → ⊥) → (x == y) ≡ false
unequal_false x y h = grind (arith, nat_tests)

pub same_or_apart : (p q : ℕ) → (p ≡ q) ⊎ (p ≡ q → ⊥)
same_or_apart p q = by (nat_eq p q) refl
  where
    by : (b : Bool) → nat_eq p q ≡ b → (p ≡ q) ⊎ (p ≡ q → ⊥)
    by true e = inl (grind (arith, nat_tests))
    by false e = inr (λ k. grind (arith, nat_tests))

pub same_or_not : (m n : ℕ) → (m ≡ n) ⊎ (m ≢ n)
same_or_not m n = by (nat_eq m n) refl
  where
    by : (b : Bool) → nat_eq m n ≡ b → (m ≡ n) ⊎ (m ≢ n)
    by true e = inl (eqb-true m n e)
    by false e = inr (eqb-false m n e)

pub le_or_less : (m n : ℕ) → (m ≤ n) ⊎ (n < m)
le_or_less zero n = inl (omega arith)
le_or_less (suc m) zero = inr (omega arith)
le_or_less (suc m) (suc n) = elim (le_or_less m n) as (λ _. (suc m ≤ suc n) ⊎ (suc n < suc m)) [ inl h ↦ inl (omega arith) | inr h ↦ inr (omega arith) ]

pub less_of_not : (m n : ℕ) → (n ≤ m → ⊥) → m < n
less_of_not m n h = grind arith

pub some_some_same : (t u : ℕ) → Some (Some t) ≡ Some (Some u) → t ≡ u
some_some_same t u h = cc

pub some_is : (a b : ℕ) → Some a ≡ Some b → a ≡ b
some_is a b e = cc

pub nat_eq_same : (p q : ℕ) → nat_eq p q ≡ true → p ≡ q
nat_eq_same p q e = grind (arith, nat_tests)

pub nat_le_true : (a b : ℕ) → nat_le a b ≡ true → a ≤ b
nat_le_true a b h = grind (arith, nat_tests)

pub nat_lt_false : (m n : ℕ) → nat_lt m n ≡ false → n ≤ m
nat_lt_false m n e = grind (arith, nat_tests)

pub nat_lt_true : (m n : ℕ) → nat_lt m n ≡ true → m < n
nat_lt_true m n e = grind (arith, nat_tests)

pub suc_on : (m n : ℕ) → suc m + n ≡ suc (m + n)
suc_on m n = omega arith

pub suc_injective : (a b : ℕ) → suc a ≡ suc b → a ≡ b
suc_injective a b h = omega arith

pub less_or_last : (k i : ℕ) → k < i + 1 → (k < i) ⊎ (k ≡ i)
less_or_last k i h = grind arith

pub greater_unequal : (k m : ℕ) → k < m → (k == m) ≡ false
greater_unequal k m l = grind (arith, nat_tests)

pub greater_unequal_back : (x n : ℕ) → x < n → (n == x) ≡ false
greater_unequal_back x n l = grind (arith, nat_tests)

pub nat_lt_of : (m n : ℕ) → m < n → nat_lt m n ≡ true
nat_lt_of m n h = grind (arith, nat_tests)

pub less_apart : (i u : ℕ) → i < u → i ≡ u → ⊥
less_apart i u lt e = omega arith

pub equal_true : (i j : ℕ) → i ≡ j → (i == j) ≡ true
equal_true i j e = grind (arith, nat_tests)

pub max_none : (a b : ℕ) → a ≡ b → max a 0 ≡ b
max_none a b e = omega (arith, e)

pub unequal_test_at : (a b : ℕ) → a ≢ b → (t : Bool) → (a == b) ≡ t → t ≡ false
unequal_test_at a b n true e = absurd (n (eqb-true a b e))
unequal_test_at a b n false e = refl

pub unequal_test : (m n : ℕ) → m ≢ n → (m == n) ≡ false
unequal_test m n h = elim (m == n) as (λ b. (m == n) ≡ b → b ≡ false) [ true ↦ λ e. absurd (h (same_number m n e)) | false ↦ λ e. refl ] refl

pub same_or_above : (i x : ℕ) → i ≤ x → (i ≡ x) ⊎ (suc i ≤ x)
same_or_above i x h = grind arith

pub less_or_same : (i j : ℕ) → j < suc i → (j < i) ⊎ (j ≡ i)
less_or_same i j h = at (cases_lt j i)
  where
    at : (j < i) ⊎ (i ≤ j) → (j < i) ⊎ (j ≡ i)
    at (inl l) = inl l
    at (inr l) = inr (omega (arith, h, l))

pub below_next : (i d : ℕ) → d < i + 1 → (d < i) ⊎ (d ≡ i)
below_next i d h = elim (cases_lt d i) [ inl l ↦ inl l | inr g ↦ inr (omega (arith, h, g)) ]

pub times_minus_zero : (a x : ℕ) → x ≡ 0 → a * (x - 0) ≡ 0
times_minus_zero a x e = ap (λ x. a * x) (let z : x - 0 ≡ 0 = omega (arith, e) in z) ∙ mul-zero a

pub times_minus_one : (a x : ℕ) → x ≡ 1 → a * (x - 0) ≡ a
times_minus_one a x e = ap (λ x. a * x) (let z : x - 0 ≡ 1 = omega (arith, e) in z) ∙ mul-one a

pub not_below : (i j : ℕ) → j ≤ i → not (nat_lt i j) ≡ true
not_below i j low = elim (true_or_false (nat_lt i j)) as (λ v. not (nat_lt i j) ≡ true) [
  | inl e ↦ let z = nat_lt_true i j e in absurd (omega (arith, low, z))
  | inr e ↦ ap not e
]

pub positive_or_zero : (n : ℕ) → (0 < n) ⊎ (n ≡ 0)
positive_or_zero zero = inr refl
positive_or_zero (suc n) = inl (omega arith)

pub zero_suc : (a : ℕ) → (0 == suc a) ≡ false
zero_suc a = grind (arith, nat_tests)

pub suc_zero : (a : ℕ) → (suc a == 0) ≡ false
suc_zero a = grind (arith, nat_tests)

pub equal_itself : (a : ℕ) → (a == a) ≡ true
equal_itself a = eq-eqb a a refl

pub positive_unequal : (k : ℕ) → 0 < k → (0 == k) ≡ false
positive_unequal k h = grind (arith, nat_tests)

pub positive_not_zero : (n : ℕ) → 0 < n → not (n == 0) ≡ true
positive_not_zero n low = ap not (unequal_false n 0 (λ e. (let z : ⊥ = omega (arith, low, e) in z)))

pub replicate_length : (n : ℕ) → length (replicate n false) ≡ n
replicate_length zero = refl
replicate_length (suc n) = ap suc (replicate_length n)

pub fits_small : (n : ℕ) → n < 2 ^ 63 → FitsSigned w64 (pos n)
fits_small n h = record { sfits = h }

pub fits_bit : (n : ℕ) → n < 2 → FitsSigned w64 (pos n)
fits_bit n h = fits_signed_from_abs w64 (pos n) (omega arith)

pub fits_above : (n : ℕ) → n ≤ 2 ^ 63 - 1 → FitsSigned w64 (pos n)
fits_above n h = omega (arith, h)

pub fits_below : (n : ℕ) → n ≤ 2 ^ 63 → FitsSigned w64 (neg_ℤ (pos n))
fits_below zero h = omega arith
fits_below (suc n) h = omega (arith, h)

pub if_some : {A : Type 0} (b : Bool) (o : Option A) (a : A) → (if b then o else None) ≡ Some a → o ≡ Some a
if_some true o a e = e
if_some false o a e = absurd (cc)

pub append_associates : {A : Type 0} (us vs ws : List A) → us ++ (vs ++ ws) ≡ (us ++ vs) ++ ws
append_associates [] vs ws = refl
append_associates {A} (u ∷ us) vs ws = ap (λ (xs : List A). u ∷ xs) (append_associates us vs ws)

pub length_append : {A : Type 0} (us vs : List A) → length (us ++ vs) ≡ length us + length vs
length_append [] vs = omega arith
length_append (u ∷ us) vs = let h = length_append us vs in omega arith

pub take_seam : {A : Type 0} (xs ys : List A) → take (length xs) (xs ++ ys) ≡ xs
take_seam [] ys = refl
take_seam (x ∷ xs) ys = ap (λ l. x ∷ l) (take_seam xs ys)

pub get_seam : {A : Type 0} (xs : List A) (y : A) (ys : List A) → slice_get (xs ++ y ∷ ys) (length xs) ≡ Some y
get_seam [] y ys = refl
get_seam (x ∷ xs) y ys = get_seam xs y ys

pub last_length : {A : Type 0} (pre : List A) (x : A) → length (pre ++ x ∷ []) ≡ suc (length pre)
last_length [] x = refl
last_length (y ∷ pre) x = ap suc (last_length pre x)

pub get_last : {A : Type 0} (xs : List A) (y : A) → slice_get (xs ++ y ∷ []) (length xs) ≡ Some y
get_last [] y = refl
get_last (x ∷ xs) y = get_last xs y

pub append_nil : {A : Type 0} (xs : List A) → xs ++ [] ≡ xs
append_nil [] = refl
append_nil (x ∷ xs) = ap (λ z. x ∷ z) (append_nil xs)

pub none_of : {A : Type 0} (o : Option A) → ((x : A) → o ≡ Some x → ⊥) → o ≡ None
none_of None h = refl
none_of (Some x) h = absurd (h x refl)

pub none_seen : {A : Type 0} (o : Option A) → is_some o ≡ false → o ≡ None
none_seen None h = refl
none_seen (Some a) h = absurd (cc)

pub some_of : {A : Type 0} (o : Option A) → is_some o ≡ true → (x : A) × (o ≡ Some x)
some_of None e = absurd (true≢false (sym e))
some_of (Some x) e = (x, refl)

pub cons_head : {A : Type 0} → (x y : A) (xs ys : List A) → x ∷ xs ≡ y ∷ ys → x ≡ y
cons_head x y xs ys e = cc

pub cons_tail : {A : Type 0} → (x y : A) (xs ys : List A) → x ∷ xs ≡ y ∷ ys → xs ≡ ys
cons_tail x y xs ys e = cc

pub map_append : {A B : Type 0} (f : A → B) (xs ys : List A) → map f (xs ++ ys) ≡ map f xs ++ map f ys
map_append f [] ys = refl
map_append f (x ∷ xs) ys = ap (λ zs. f x ∷ zs) (map_append f xs ys)

pub map_length : {A B : Type 0} (f : A → B) (xs : List A) → length (map f xs) ≡ length xs
map_length f [] = refl
map_length f (x ∷ xs) = ap suc (map_length f xs)

pub mapped_from : {A B : Type 0} (f : A → B) (o : Option A) (y : B) → option_map f o ≡ Some y → (x : A) × (o ≡ Some x) × (f x ≡ y)
mapped_from f None y e = absurd (none-some y e)
mapped_from f (Some x) y e = (x, refl, same_Some (f x) y e)

pub map_map : {A B C : Type 0} (f : B → C) (g : A → B) (xs : List A) → map f (map g xs) ≡ map (λ x. f (g x)) xs
map_map f g [] = refl
map_map f g (x ∷ xs) = ap (λ l. f (g x) ∷ l) (map_map f g xs)

pub get_set_flag : (rs : List Bool) (p q : ℕ) → (p ≡ q → ⊥) → slice_get (slice_set rs p true) q ≡ slice_get rs q
get_set_flag [] p q off = refl
get_set_flag (x ∷ rs) zero zero off = absurd (off refl)
get_set_flag (x ∷ rs) zero (suc q) off = refl
get_set_flag (x ∷ rs) (suc p) zero off = refl
get_set_flag (x ∷ rs) (suc p) (suc q) off = get_set_flag rs p q (λ e. off (ap suc e))

pub set_flag_length : (ms : List Bool) (q : ℕ) → length (slice_set ms q true) ≡ length ms
set_flag_length [] q = refl
set_flag_length (m ∷ ms) zero = refl
set_flag_length (m ∷ ms) (suc q) = ap suc (set_flag_length ms q)

pub nonempty_length : (xs : List ℕ) (b : Bool) → b ≡ (length xs == 0) → b ≡ false → 0 < length xs
nonempty_length [] b e f = cc
nonempty_length (x ∷ xs) b e f = omega arith

pub append_more : (xs ys zs : List ℕ) → (xs ++ ys) ++ zs ≡ xs ++ (ys ++ zs)
append_more [] ys zs = refl
append_more (x ∷ xs) ys zs = ap (λ r. x ∷ r) (append_more xs ys zs)

pub apart_in_order : (x y k : List ℕ) → bytes_eq x y ≡ false → is_eq (slice_cmp nat_cmp x k) ≡ true → is_eq (slice_cmp nat_cmp y k) ≡ false
apart_in_order x y k n h =
    let same : x ≡ k = (bytes_eq-Decides x k).0 (sym (is_eq-slice_cmp x k) ∙ h) in
    is_eq-slice_cmp y k
    ∙ false_from_ne_true (bytes_eq y k) (λ t.
    let e : bytes_eq x y ≡ true = (bytes_eq-Decides x y).1 (same ∙ sym ((bytes_eq-Decides y k).0 t)) in
    cc)

pub length_join : (xs ys : List ℕ) → length (xs ++ ys) ≡ length xs + length ys
length_join [] ys = omega arith
length_join (x ∷ xs) ys = let h = length_join xs ys in omega arith

pub append_one : (xs : List ℕ) (x : ℕ) (ys : List ℕ) → xs ++ (x ∷ ys) ≡ (xs ++ x ∷ []) ++ ys
append_one [] x ys = refl
append_one (z ∷ xs) x ys = ap (λ u. z ∷ u) (append_one xs x ys)

pub get_any : (xs : List ℕ) (i a b : ℕ) → i < length xs → get_or xs i a ≡ get_or xs i b
get_any [] i a b h = absurd (omega arith)
get_any (x ∷ xs) zero a b h = refl
get_any (x ∷ xs) (suc i) a b h = get_any xs i a b (omega arith)

pub set_length : (xs : List ℕ) (k x : ℕ) → length (set xs k x) ≡ length xs
set_length [] k x = refl
set_length (y ∷ ys) zero x = refl
set_length (y ∷ ys) (suc k) x = ap suc (set_length ys k x)

pub slice_set_length : (ws : List ℕ) (p v : ℕ) → length (slice_set ws p v) ≡ length ws
slice_set_length [] p v = refl
slice_set_length (w ∷ ws) zero v = refl
slice_set_length (w ∷ ws) (suc p) v = ap suc (slice_set_length ws p v)

pub drop_at_number : (xs : List ℕ) (i : ℕ) (x : ℕ) → slice_get xs i ≡ Some x → drop i xs ≡ x ∷ drop (suc i) xs
drop_at_number [] i x e = absurd (cc)
drop_at_number (y ∷ xs) zero x e = ap (λ z. z ∷ xs) (same_some y x e)
drop_at_number (y ∷ xs) (suc i) x e = drop_at_number xs i x e

pub drop_past : (xs : List ℕ) (i : ℕ) → length xs ≤ i → drop i xs ≡ []
drop_past [] zero h = refl
drop_past [] (suc i) h = refl
drop_past (x ∷ xs) zero h = absurd (omega arith)
drop_past (x ∷ xs) (suc i) h = drop_past xs i (omega arith)

pub take_last : (xs : List ℕ) (x : ℕ) → take (length (xs ++ x ∷ []) - 1) (xs ++ x ∷ []) ≡ xs
take_last xs x = (let l = length-append xs (x ∷ []) in let e : length (xs ++ x ∷ []) - 1 ≡ length xs = omega (arith, l) in ap (λ n. take n (xs ++ x ∷ [])) e) ∙ at xs
  where
    at : (xs : List ℕ) → take (length xs) (xs ++ x ∷ []) ≡ xs
    at [] = refl
    at (y ∷ xs) = ap (λ zs. y ∷ zs) (at xs)

pub take_next : (xs : List ℕ) (j : ℕ) → j < length xs → take (suc j) xs ≡ take j xs ++ get_or xs j 0 ∷ []
take_next [] j lt = absurd (omega (arith, lt))
take_next (x ∷ xs) zero lt = refl
take_next (x ∷ xs) (suc j) lt = ap (λ ys. x ∷ ys) (take_next xs j (omega (arith, lt)))

pub empty_of_length : (vs : List ℕ) → length vs ≡ 0 → vs ≡ []
empty_of_length [] e = refl
empty_of_length (v ∷ vs) e = absurd (let z : ⊥ = omega arith in z)

pub append_none : (xs : List ℕ) → xs ++ [] ≡ xs
append_none xs = search rules

pub append_none_back : (xs : List ℕ) → xs ≡ xs ++ []
append_none_back [] = refl
append_none_back (x ∷ xs) = ap (λ ys. x ∷ ys) (append_none_back xs)

pub some_of_other : (o : Option ℕ) → o ≢ None → (n : ℕ) × (o ≡ Some n)
some_of_other None h = absurd (h refl)
some_of_other (Some n) h = (n, refl)

pub take_front : (k : ℕ) (ws vs : List ℕ) → k ≤ length ws → take k (ws ++ vs) ≡ take k ws
take_front zero ws vs h = refl
take_front (suc k) [] vs h = absurd (omega arith)
take_front (suc k) (w ∷ ws) vs h = ap (λ xs. w ∷ xs) (take_front k ws vs (omega arith))

pub drop_cons : (n : ℕ) (xs : List ℕ) (y : ℕ) (ys : List ℕ) → drop n xs ≡ y ∷ ys → (slice_get xs n ≡ Some y) × (drop (suc n) xs ≡ ys) × (n < length xs)
drop_cons zero [] y ys e = cc
drop_cons zero (x ∷ xs) y ys e = let a : x ≡ y = cc in let b : xs ≡ ys = cc in (ap Some a, b, omega arith)
drop_cons (suc n) [] y ys e = cc
drop_cons (suc n) (x ∷ xs) y ys e = let h = drop_cons n xs y ys e in (h.0, h.1, (let z = h.2 in omega (arith, z)))

pub take_few : (n : ℕ) (xs : List ℕ) → length (take n xs) ≤ length xs
take_few zero xs = omega arith
take_few (suc n) [] = omega arith
take_few (suc n) (x ∷ xs) = (let h = take_few n xs in omega (arith, h))

pub take_whole : (n : ℕ) (xs : List ℕ) → length xs ≤ n → take n xs ≡ xs
take_whole zero [] l = refl
take_whole zero (x ∷ xs) l = absurd (omega arith)
take_whole (suc n) [] l = refl
take_whole (suc n) (x ∷ xs) l = ap (λ xs. x ∷ xs) (take_whole n xs (omega arith))

pub take_length : (k : ℕ) (ws : List ℕ) → k ≤ length ws → length (take k ws) ≡ k
take_length zero ws h = refl
take_length (suc k) [] h = absurd (omega arith)
take_length (suc k) (w ∷ ws) h = ap suc (take_length k ws (omega arith))

pub head_same : (x y : ℕ) (xs ys : List ℕ) → x ∷ xs ≡ y ∷ ys → x ≡ y
head_same x y xs ys e = cc

pub tail_same : (x y : ℕ) (xs ys : List ℕ) → x ∷ xs ≡ y ∷ ys → xs ≡ ys
tail_same x y xs ys e = cc

pub get_more : {A : Type 0} (xs ys : List A) (i : ℕ) (x : A) → slice_get xs i ≡ Some x → slice_get (xs ++ ys) i ≡ Some x
get_more [] ys i x e = cc
get_more (z ∷ xs) ys zero x e = e
get_more (z ∷ xs) ys (suc i) x e = get_more xs ys i x e

pub get_push : {A : Type 0} (xs : List A) (y : A) (i : ℕ) (x : A) → slice_get (xs ++ y ∷ []) i ≡ Some x → (slice_get xs i ≡ Some x) ⊎ ((i ≡ length xs) × (x ≡ y))
get_push [] y zero x h = inr (refl, sym (same_Some y x h))
get_push [] y (suc i) x h = absurd (none-some x h)
get_push (z ∷ xs) y zero x h = inl h
get_push (z ∷ xs) y (suc i) x h = elim (get_push xs y i x h) [
  | inl e ↦ inl e
  | inr e ↦ inr (ap suc e.0, e.1)
]

pub get_set_other : {A : Type 0} (xs : List A) (i : ℕ) (x : A) (j : ℕ) → (j ≡ i → ⊥) → slice_get (slice_set xs i x) j ≡ slice_get xs j
get_set_other [] i x j h = refl
get_set_other (z ∷ zs) zero x zero h = absurd (h refl)
get_set_other (z ∷ zs) zero x (suc j) h = refl
get_set_other (z ∷ zs) (suc i) x zero h = refl
get_set_other (z ∷ zs) (suc i) x (suc j) h = get_set_other zs i x j (λ e. h (ap suc e))

pub length_set : {A : Type 0} (xs : List A) (k : ℕ) (x : A) → length (slice_set xs k x) ≡ length xs
length_set [] k x = refl
length_set (y ∷ xs) zero x = refl
length_set (y ∷ xs) (suc k) x = ap suc (length_set xs k x)

pub drop_at_next : {A : Type 0} (ts : List A) (i : ℕ) (t : A) → slice_get ts i ≡ Some t → drop i ts ≡ t ∷ drop (suc i) ts
drop_at_next [] i t e = cc
drop_at_next (x ∷ xs) zero t e = let h : x ≡ t = cc in ap (λ z. z ∷ xs) h
drop_at_next (x ∷ xs) (suc i) t e = drop_at_next xs i t e

pub left_at : {A : Type 0} (xs : List A) (i : ℕ) (x : A) → slice_get xs i ≡ Some x → drop i xs ≡ x ∷ drop (i + 1) xs
left_at xs i x e = let q : suc i ≡ i + 1 = omega arith in drop_at_next xs i x e ∙ ap (λ m. x ∷ drop m xs) q

pub get_within : {A : Type 0} (xs : List A) (i : ℕ) (x : A) → slice_get xs i ≡ Some x → i < length xs
get_within [] i x e = cc
get_within (y ∷ xs) zero x e = omega arith
get_within (y ∷ xs) (suc i) x e = let r = get_within xs i x e in omega (arith, r)

pub drop_next : {A : Type 0} (xs : List A) (i : ℕ) (d : A) → i < length xs → drop i xs ≡ get_or xs i d ∷ drop (i + 1) xs
drop_next xs i d h = drop_at_next xs i (get_or xs i d) (slice_get-get_or xs i d h) ∙ ap (λ j. get_or xs i d ∷ drop j xs) (sym (add-one i))

pub get_set_here : {A : Type 0} (xs : List A) (i : ℕ) (x : A) → i < length xs → slice_get (slice_set xs i x) i ≡ Some x
get_set_here [] i x h = absurd (omega (arith, h))
get_set_here (z ∷ zs) zero x h = refl
get_set_here (z ∷ zs) (suc i) x h = get_set_here zs i x (omega (arith, h))

pub drop_suc : {A : Type 0} (xs : List A) (n : ℕ) (x : A) → n < length xs → x ≡ get_or xs n x → drop n xs ≡ x ∷ drop (suc n) xs
drop_suc [] n x le e = absurd (omega arith)
drop_suc (y ∷ xs) zero x le e = ap (λ z. z ∷ xs) (sym e)
drop_suc (y ∷ xs) (suc n) x le e = drop_suc xs n x (omega arith) e

pub drop_item : {A : Type 0} (xs : List A) (i : ℕ) (x : A) → i < length xs → x ≡ get_or xs i x → drop i xs ≡ x ∷ drop (i + 1) xs
drop_item xs i x l e = let s : suc i ≡ i + 1 = omega arith in drop_suc xs i x l e ∙ ap (λ k. x ∷ drop k xs) s

pub get_at : {A : Type 0} (xs : List A) (i : ℕ) (x : A) → i < length xs → x ≡ get_or xs i x → slice_get xs i ≡ Some x
get_at xs i x h e = slice_get-get_or xs i x h ∙ ap Some (sym e)

pub drop_end : {A : Type 0} (xs : List A) (i : ℕ) → length xs ≤ i → drop i xs ≡ []
drop_end [] zero l = refl
drop_end [] (suc i) l = refl
drop_end (x ∷ xs) zero l = absurd (omega arith)
drop_end (x ∷ xs) (suc i) l = drop_end xs i (omega arith)

pub get_none : {A : Type 0} (xs : List A) (i : ℕ) → length xs ≤ i → slice_get xs i ≡ None
get_none [] i l = refl
get_none (x ∷ xs) zero l = absurd (omega arith)
get_none (x ∷ xs) (suc i) l = get_none xs i (omega arith)

pub take_past : {A : Type 0} (xs : List A) (n : ℕ) → length xs ≤ n → take n xs ≡ xs
take_past [] zero le = refl
take_past [] (suc n) le = refl
take_past (x ∷ xs) zero le = absurd (omega arith)
take_past (x ∷ xs) (suc n) le = ap (λ ys. x ∷ ys) (take_past xs n (omega arith))

pub drop_of_none : {A : Type 0} (xs : List A) (n : ℕ) → slice_get xs n ≡ None → drop n xs ≡ []
drop_of_none [] zero e = refl
drop_of_none [] (suc n) e = refl
drop_of_none (y ∷ xs) zero e = cc
drop_of_none (y ∷ xs) (suc n) e = drop_of_none xs n e

pub length_of_none : {A : Type 0} (xs : List A) (i : ℕ) → slice_get xs i ≡ None → length xs ≤ i
length_of_none [] i e = omega arith
length_of_none (x ∷ xs) zero e = cc
length_of_none (x ∷ xs) (suc i) e = let r = length_of_none xs i e in omega (arith, r)

pub get_there : {A : Type 0} (xs : List A) (n : ℕ) → n < length xs → (x : A) × (slice_get xs n ≡ Some x)
get_there [] n h = absurd (omega (arith, h))
get_there (x ∷ xs) zero h = (x, refl)
get_there (x ∷ xs) (suc n) h = get_there xs n (omega (arith, h))

pub get_replicate : {A : Type 0} (n : ℕ) (a : A) (i : ℕ) (b : A) → slice_get (replicate n a) i ≡ Some b → b ≡ a
get_replicate zero a i b e = absurd (cc)
get_replicate (suc n) a zero b e = cc
get_replicate (suc n) a (suc i) b e = get_replicate n a i b e

pub get_beside : {A B : Type 0} (xs : List A) (ys : List B) (k : ℕ) (x : A) → length xs ≡ length ys → slice_get xs k ≡ Some x → (y : B) × (slice_get ys k ≡ Some y)
get_beside [] ys k x e h = absurd (none-some x h)
get_beside (z ∷ zs) [] k x e h = absurd cc
get_beside (z ∷ zs) (y ∷ ys) zero x e h = (y, refl)
get_beside (z ∷ zs) (y ∷ ys) (suc k) x e h = get_beside zs ys k x (cc) h

pub get_map : {A B : Type 0} (f : A → B) (xs : List A) (i : ℕ) (x : A) → slice_get xs i ≡ Some x → slice_get (map f xs) i ≡ Some (f x)
get_map f [] i x e = cc
get_map f (y ∷ xs) zero x e = let g : y ≡ x = cc in ap (λ z. Some (f z)) g
get_map f (y ∷ xs) (suc i) x e = get_map f xs i x e

pub map_at_inverse : {A B : Type 0} (name : A → B) (xs : List A) (i : ℕ) (n : B) → slice_get (map name xs) i ≡ Some n → (x : A) × (slice_get xs i ≡ Some x) × (name x ≡ n)
map_at_inverse name xs i n e = mapped_from name (slice_get xs i) n (sym (slice_get-map name xs i) ∙ e)

pub get_of_map : {A B : Type 0} (f : A → B) (xs : List A) (i : ℕ) (y : B) → slice_get (map f xs) i ≡ Some y → (x : A) × (slice_get xs i ≡ Some x) × (y ≡ f x)
get_of_map f [] i y h = absurd (none-some y h)
get_of_map f (x ∷ xs) zero y h = (x, refl, sym (same_Some (f x) y h))
get_of_map f (x ∷ xs) (suc i) y h = get_of_map f xs i y h

pub get_map_past : {A B : Type 0} (f : A → B) (xs : List A) (k : ℕ) → length xs ≤ k → slice_get (map f xs) k ≡ None
get_map_past f [] k l = refl
get_map_past f (y ∷ xs) zero l = absurd (omega (arith, l))
get_map_past f (y ∷ xs) (suc k) l = get_map_past f xs k (omega (arith, l))
