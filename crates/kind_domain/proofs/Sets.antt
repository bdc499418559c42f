-- Numbers that rise, and searches in them.
use Rattle.std.proofs.Common.{◌≡◌, ℕ, zero, suc, ◌+◌, ◌<◌, ◌≤◌, ◌≢◌, inl, inr, List, [], ◌∷◌, length, get_or, refl, sym, ◌∙◌, arith}
use Rattle.std.specs.Prelude.{true, false, ◌==◌, nat_lt, Result, Ok, Err, is_ok, MatchResult}
use Rattle.std.proofs.lemmas.Bool.{eq-eqb, ne_eqb, lt-ltb, le-ltb}
use Rattle.code_rules.specs.Kinds.{has}
use Rattle.kind_domain.specs.Rising.{RiseFrom}
use Rattle.code_rules.specs.Types.{numbers}
use Rattle.fip_base.proofs.fip_language.Facts.{less_or_not as below_or, or_false_false as or_none, or_first, or_last as or_of, same_or_above}

pub rise_low : (low : ℕ) (xs : List ℕ) (j : ℕ) → RiseFrom low xs → j < length xs → low ≤ get_or xs j 0
rise_low low [] j r h = absurd (omega arith)
rise_low low (x ∷ xs) zero r h = r.0
rise_low low (x ∷ xs) (suc j) r h = let g = rise_low (suc x) xs j r.1 (omega arith) in let k = r.0 in omega arith

pub rise_order : (low : ℕ) (xs : List ℕ) → RiseFrom low xs → (i j : ℕ) → i ≤ j → j < length xs →
    get_or xs i 0 ≤ get_or xs j 0
rise_order low [] r i j h k = absurd (omega arith)
rise_order low (x ∷ xs) r zero zero h k = omega arith
rise_order low (x ∷ xs) r zero (suc j) h k = let g = rise_low (suc x) xs j r.1 (omega arith) in omega arith
rise_order low (x ∷ xs) r (suc i) zero h k = absurd (omega arith)
rise_order low (x ∷ xs) r (suc i) (suc j) h k = rise_order (suc x) xs r.1 i j (omega arith) (omega arith)

pub has_at : (xs : List ℕ) (i x : ℕ) → i < length xs → get_or xs i 0 ≡ x → has xs x ≡ true
has_at [] i x h e = absurd (omega arith)
has_at (y ∷ xs) zero x h e = or_first (y == x) (has xs x) (eq-eqb y x e)
has_at (y ∷ xs) (suc i) x h e = or_of (y == x) (has xs x) (has_at xs i x (omega arith) e)

pub has_none : (xs : List ℕ) (x : ℕ) → ((k : ℕ) → k < length xs → get_or xs k 0 ≡ x → ⊥) → has xs x ≡ false
has_none [] x h = refl
has_none (y ∷ xs) x h =
    or_none (y == x) (has xs x) (ne_eqb y x (λ e. h 0 (omega arith) e)) (has_none xs x (λ k l e. h (suc k) (omega arith) e))

apart : (xs : List ℕ) (x i k : ℕ) → (i ≤ length xs) × ((k : ℕ) → k < i → get_or xs k 0 < x)
    × ((k : ℕ) → i ≤ k → k < length xs → x < get_or xs k 0) → k < length xs → get_or xs k 0 ≡ x → ⊥
apart xs x i k h l e =
    elim (below_or k i) [
      | inl a ↦ (let g = h.1 k a in omega arith)
      | inr a ↦ (let g = h.2 k a l in omega arith)
    ]

pub found_is : (xs : List ℕ) (x : ℕ) (r : Result ℕ ℕ) →
    MatchResult r (λ i. (i < length xs) × (get_or xs i 0 ≡ x)) (λ i. (i ≤ length xs)
    × ((k : ℕ) → k < i → get_or xs k 0 < x) × ((k : ℕ) → i ≤ k → k < length xs → x < get_or xs k 0)) →
    is_ok r ≡ has xs x
found_is xs x (Ok i) h = sym (has_at xs i x h.0 h.1)
found_is xs x (Err i) h = sym (has_none xs x (λ k l e. apart xs x i k h l e))

pub only_none : (n : ℕ) → n ≢ 1 → (c : ℕ) → numbers 0 n ≡ c ∷ [] → ⊥
only_none zero h c e = cc
only_none (suc zero) h c e = h refl
only_none (suc (suc n)) h c e = cc

numbers_low : (i n x : ℕ) → x < i → has (numbers i n) x ≡ false
numbers_low i zero x h = refl
numbers_low i (suc n) x h =
    or_none (i == x) (has (numbers (suc i) n) x) (ne_eqb i x (λ e. omega arith)) (numbers_low (suc i) n x (omega arith))

numbers_high : (i n x : ℕ) → i + n ≤ x → has (numbers i n) x ≡ false
numbers_high i zero x h = refl
numbers_high i (suc n) x h =
    or_none (i == x) (has (numbers (suc i) n) x) (ne_eqb i x (λ e. omega arith)) (numbers_high (suc i) n x (omega arith))

pub numbers_within : (i n x : ℕ) → i ≤ x → x < i + n → has (numbers i n) x ≡ true
numbers_within i zero x h l = absurd (omega arith)
numbers_within i (suc n) x h l =
    elim (same_or_above i x h) [
      | inl e ↦ or_first (i == x) (has (numbers (suc i) n) x) (eq-eqb i x e)
      | inr g ↦ or_of (i == x) (has (numbers (suc i) n) x) (numbers_within (suc i) n x g (omega arith))
    ]

pub has_numbers : (n x : ℕ) → nat_lt x n ≡ has (numbers 0 n) x
has_numbers n x =
    elim (below_or x n) [
      | inl h ↦ lt-ltb x n h ∙ sym (numbers_within 0 n x (omega arith) (omega arith))
      | inr h ↦ le-ltb x n h ∙ sym (numbers_high 0 n x (omega arith))
    ]
