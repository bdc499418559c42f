-- Lists of credits by sizes from 1 to 16.
use Rattle.std.proofs.Common.{◌≡◌, ℕ, zero, suc, ◌<◌, ◌≤◌, ◌+◌, ◌⊎◌, inl, inr, refl, ap, ◌∙◌, List, [], ◌∷◌, Bool, true, false, arith}
use Rattle.std.specs.Prelude.{◌==◌, nat_lt, if◌then◌else◌}
use Rattle.std.proofs.lemmas.Bool.Decides.{nat_tests}
use Rattle.derivation_check.specs.derivation_trees.declared.derivation.Credit as D
use Rattle.ownership_agreement.proofs.Amounts.{IsOut}
use Rattle.derivation_check.specs.Owned.{amount, RisingSizes}
use Rattle.derivation_making.specs.Made.{counted, credits, same_from}
use Rattle.derivation_making.proofs.Lists.{either, both_are, and_true, same_number}
use Rattle.type_check.proofs.fip_language.Facts.{equal_true as same_test}
use Rattle.ownership_agreement.proofs.Evens.{in_or_out as below_or_not}

pub by_size : (P : ℕ → Type 0) → ((k : ℕ) → 0 < k → k < 17 → P k) → ((k : ℕ) → IsOut k → P k) → (k : ℕ) → P k
by_size P f g k = elim (below_or_not k) [ inl h ↦ f k h.0 h.1 | inr h ↦ g k h ]

-- ---- amounts

none_counted : (b : Bool) (f : ℕ) → nat_lt 0 f ≡ b → b ≡ false → f ≡ 0
none_counted b f e h = grind (arith, nat_tests)

next_amount : (b : Bool) (k f j : ℕ) (cs : List D.Credit) → nat_lt 0 f ≡ b → amount j (if b then record { size = k; count = f } ∷ cs else cs) ≡ (if k == j then f else 0) + amount j cs
next_amount true k f j cs e = refl
next_amount false k f j cs e = let z = none_counted false f e refl in zero_more (k == j) f (amount j cs) z
  where
    zero_more : (c : Bool) (f m : ℕ) → f ≡ 0 → m ≡ (if c then f else 0) + m
    zero_more true f m z = omega arith
    zero_more false f m z = omega arith

counted_next : (f : ℕ → ℕ) (k n j : ℕ) → amount j (counted f k (suc n)) ≡ (if k == j then f k else 0) + amount j (counted f (suc k) n)
counted_next f k n j = next_amount (nat_lt 0 (f k)) k (f k) j (counted f (suc k) n) refl

if_true : (b : Bool) (m : ℕ) → b ≡ true → (if b then m else 0) ≡ m
if_true true m e = refl
if_true false m e = absurd (cc)

if_false : (b : Bool) (m : ℕ) → b ≡ false → (if b then m else 0) ≡ 0
if_false true m e = absurd (cc)
if_false false m e = refl

apart : (k j : ℕ) → (k < j) ⊎ (j < k) → (k == j) ≡ false
apart k j (inl l) = grind (arith, nat_tests)
apart k j (inr l) = grind (arith, nat_tests)

counted_out : (f : ℕ → ℕ) (k n j : ℕ) → (j < k) ⊎ (k + n ≤ j) → amount j (counted f k n) ≡ 0
counted_out f k zero j h = refl
counted_out f k (suc n) j (inl l) =
    let a = counted_next f k n j in let b = if_false (k == j) (f k) (apart k j (inr l)) in let c = counted_out f (suc k) n j (inl (omega arith)) in omega arith
counted_out f k (suc n) j (inr l) =
    let a = counted_next f k n j in let b = if_false (k == j) (f k) (apart k j (inl (omega arith))) in let c = counted_out f (suc k) n j (inr (omega arith)) in omega arith

here : (f : ℕ → ℕ) (k j : ℕ) → (k == j) ≡ true → f k ≡ f j
here f k j e = ap f (same_number k j e)

counted_in : (f : ℕ → ℕ) (k n j : ℕ) → k ≤ j → j < k + n → amount j (counted f k n) ≡ f j
counted_in f k zero j h l = absurd (omega arith)
counted_in f k (suc n) j h l = elim (either (k == j)) [
  | inl e ↦
      let s = same_number k j e in
      let a = counted_next f k n j in let b = if_true (k == j) (f k) e in let c = counted_out f (suc k) n j (inl (omega arith)) in let d = here f k j e in omega arith
  | inr e ↦
      let s : k < j = later k j e h in
      let a = counted_next f k n j in let b = if_false (k == j) (f k) e in let c = counted_in f (suc k) n j (omega arith) (omega arith) in omega arith
]
  where
    later : (k j : ℕ) → (k == j) ≡ false → k ≤ j → k < j
    later k j e h = grind (arith, nat_tests)

pub amount_in : (f : ℕ → ℕ) (k : ℕ) → 0 < k → k < 17 → amount k (credits f) ≡ f k
amount_in f k h l = counted_in f 1 16 k (omega arith) (omega arith)

pub amount_out : (f : ℕ → ℕ) (k : ℕ) → IsOut k → amount k (credits f) ≡ 0
amount_out f k (inl e) = counted_out f 1 16 k (inl (omega arith))
amount_out f k (inr l) = counted_out f 1 16 k (inr (omega arith))

-- ---- they rise

rising_next : (b : Bool) (m k f : ℕ) (cs : List D.Credit) → nat_lt 0 f ≡ b → m ≤ k → k < 17 → RisingSizes (k + 1) cs → RisingSizes m cs → RisingSizes m (if b then record { size = k; count = f } ∷ cs else cs)
rising_next true m k f cs e h l r s = (h, l, some f e, r)
  where
    some : (f : ℕ) → nat_lt 0 f ≡ true → 0 < f
    some f e = grind (arith, nat_tests)
rising_next false m k f cs e h l r s = s

rising_counted : (f : ℕ → ℕ) (m k n : ℕ) → m ≤ k → k + n ≤ 17 → RisingSizes m (counted f k n)
rising_counted f m k zero h l = tt
rising_counted f m k (suc n) h l = rising_next (nat_lt 0 (f k)) m k (f k) (counted f (suc k) n) refl h (omega arith) (rising_counted f (k + 1) (suc k) n (omega arith) (omega arith)) (rising_counted f m (suc k) n (omega arith) (omega arith))

pub rising_credits : (f : ℕ → ℕ) → RisingSizes 1 (credits f)
rising_credits f = rising_counted f 1 1 16 (omega arith) (omega arith)

-- ---- the same

abbrev pub AreSame : (ℕ → ℕ) → (ℕ → ℕ) → ℕ → ℕ → Type 0
AreSame f g k zero = Unit {0}
AreSame f g k (suc n) = (f k ≡ g k) × AreSame f g (suc k) n

same_all : (f g : ℕ → ℕ) (k n : ℕ) → ((j : ℕ) → k ≤ j → j < k + n → f j ≡ g j) → AreSame f g k n
same_all f g k zero h = tt
same_all f g k (suc n) h = (h k (omega arith) (omega arith), same_all f g (suc k) n (λ j a b. h j (omega arith) (omega arith)))

same_true : (f g : ℕ → ℕ) (k n : ℕ) → AreSame f g k n → same_from f g k n ≡ true
same_true f g k zero h = refl
same_true f g k (suc n) h = and_true (f k == g k) (same_from f g (suc k) n) (same_test (f k) (g k) h.0) (same_true f g (suc k) n h.1)

true_same : (f g : ℕ → ℕ) (k n : ℕ) → same_from f g k n ≡ true → AreSame f g k n
true_same f g k zero h = tt
true_same f g k (suc n) h = let e = both_are (f k == g k) (same_from f g (suc k) n) h in (same_number (f k) (g k) e.0, true_same f g (suc k) n e.1)

same_counted : (f g : ℕ → ℕ) (k n : ℕ) → AreSame f g k n → counted f k n ≡ counted g k n
same_counted f g k zero h = refl
same_counted f g k (suc n) h = ap (λ m. if nat_lt 0 m then record { size = k; count = m } ∷ counted f (suc k) n else counted f (suc k) n) h.0 ∙ ap (λ (cs : List D.Credit). if nat_lt 0 (g k) then record { size = k; count = g k } ∷ cs else cs) (same_counted f g (suc k) n h.1)

pub same_sizes : (f g : ℕ → ℕ) → ((k : ℕ) → 0 < k → k < 17 → f k ≡ g k) → same_from f g 1 16 ≡ true
same_sizes f g h = same_true f g 1 16 (same_all f g 1 16 (λ j a b. h j (omega arith) (omega arith)))

pub same_credits : (f g : ℕ → ℕ) → same_from f g 1 16 ≡ true → credits f ≡ credits g
same_credits f g h = same_counted f g 1 16 (true_same f g 1 16 h)

none_from : (f : ℕ → ℕ) (k n : ℕ) → AreSame f (λ j. 0) k n → counted f k n ≡ []
none_from f k zero h = refl
none_from f k (suc n) h = ap (λ m. if nat_lt 0 m then record { size = k; count = m } ∷ counted f (suc k) n else counted f (suc k) n) h.0 ∙ none_from f (suc k) n h.1

pub no_credits : (f : ℕ → ℕ) → ((k : ℕ) → 0 < k → k < 17 → f k ≡ 0) → credits f ≡ []
no_credits f h = none_from f 1 16 (same_all f (λ j. 0) 1 16 (λ j a b. h j (omega arith) (omega arith)))
