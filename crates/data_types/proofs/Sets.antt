-- Sets of arguments, and what they need.
use Rattle.std.proofs.Common.{◌≡◌, ℕ, zero, suc, ◌+◌, ◌<◌, ◌≤◌, ◌⊎◌, inl, inr, Bool, true, false, List, [], ◌∷◌, ◌++◌, length, map, drop, slice_get, slice_set, Some, None, refl, ap, sym, subst, ◌∙◌, arith, true≢false, if◌then◌else◌}
use Rattle.data_types.specs.Marks as m
use Rattle.data_types.specs.Marks.{Claim, State, bit, Below, HasAll, is_marked, marked_of}
use Rattle.data_types.specs.ClaimView as v
use Rattle.data_types.specs.declared.claims.Claim as C

pub bit_set : (bs : List Bool) (i : ℕ) → bit (slice_set bs i true) i ≡ true
bit_set [] i = refl
bit_set (b ∷ bs) zero = refl
bit_set (b ∷ bs) (suc i) = bit_set bs i

pub below_set : (bs : List Bool) (i : ℕ) → Below bs (slice_set bs i true)
below_set [] i k e = e
below_set (b ∷ bs) zero zero e = refl
below_set (b ∷ bs) zero (suc k) e = e
below_set (b ∷ bs) (suc i) zero e = e
below_set (b ∷ bs) (suc i) (suc k) e = below_set bs i k e

pub bit_past : (bs : List Bool) (i : ℕ) → length bs ≤ i → bit bs i ≡ true
bit_past [] i h = refl
bit_past (b ∷ bs) zero h = absurd (omega (arith, h))
bit_past (b ∷ bs) (suc i) h = bit_past bs i (omega (arith, h))

pub below_all : (bs cs : List Bool) (n : ℕ) → length cs ≤ n → ((k : ℕ) → k < n → bit bs k ≡ true → bit cs k ≡ true) → Below bs cs
below_all bs cs n h below k e = by (less_or_more k n)
  where
    by : (k < n) ⊎ (n ≤ k) → bit cs k ≡ true
    by (inl l) = below k l e
    by (inr l) = bit_past cs k (omega (arith, h, l))

    less_or_more : (j m : ℕ) → (j < m) ⊎ (m ≤ j)
    less_or_more j zero = inr (omega arith)
    less_or_more zero (suc m) = inl (omega arith)
    less_or_more (suc j) (suc m) = elim (less_or_more j m) as (λ _. (suc j < suc m) ⊎ (suc m ≤ suc j)) [ inl l ↦ inl (omega (arith, l)) | inr l ↦ inr (omega (arith, l)) ]

-- ---- the claims of the code

abbrev pub state : List Claim → List ℕ → State
state cs ts = record { claims = cs; todo = ts }

pub claim_at : (cs : List C.Claim) (i : ℕ) (c : C.Claim) → slice_get cs i ≡ Some c → slice_get (v.claims cs) i ≡ Some (v.claim c)
claim_at [] i c e = cc
claim_at (x ∷ cs) zero c e = let f : x ≡ c = cc in ap (λ d. Some (v.claim d)) f
claim_at (x ∷ cs) (suc i) c e = claim_at cs i c e

pub claim_past : (cs : List C.Claim) (i : ℕ) → length cs ≤ i → slice_get (v.claims cs) i ≡ None
claim_past [] i h = refl
claim_past (x ∷ cs) zero h = absurd (omega (arith, h))
claim_past (x ∷ cs) (suc i) h = claim_past cs i (omega (arith, h))

pub claims_append : (cs : List C.Claim) (c : C.Claim) → v.claims (cs ++ c ∷ []) ≡ v.claims cs ++ v.claim c ∷ []
claims_append [] c = refl
claims_append (x ∷ cs) c = ap (λ l. v.claim x ∷ l) (claims_append cs c)

pub claims_length : (cs : List C.Claim) → length (v.claims cs) ≡ length cs
claims_length [] = refl
claims_length (x ∷ cs) = ap suc (claims_length cs)

pub claims_set : (cs : List C.Claim) (i : ℕ) (c : C.Claim) → v.claims (slice_set cs i c) ≡ slice_set (v.claims cs) i (v.claim c)
claims_set [] i c = refl
claims_set (x ∷ cs) zero c = refl
claims_set (x ∷ cs) (suc i) c = ap (λ l. v.claim x ∷ l) (claims_set cs i c)
