-- A text goes wrong at one place at most, and not at all where it is spelled.
use Rattle.std.proofs.Common.{◌≡◌, inl, inr, ℕ, zero, suc, ◌<◌, ◌≤◌, List, [], ◌∷◌, ◌++◌, take, drop, length, refl, sym, ap, subst, arith}
use Rattle.std.proofs.lemmas.List.{take-append-drop}
use Rattle.fip_language.specs.Prefix.{Begins, IsPlace}
use Rattle.fip_language.proofs.Search.{le_or_less}

shorter : {T : Type 0} (m n : ℕ) (ts more : List T) → m ≤ n → (rest : List T) × (take m ts ++ rest ≡ take n ts ++ more)
shorter zero n [] more le = (take n [] ++ more, refl)
shorter zero n (t ∷ ts) more le = (take n (t ∷ ts) ++ more, refl)
shorter (suc m) zero ts more le = absurd (omega arith)
shorter (suc m) (suc n) [] more le = (more, refl)
shorter (suc m) (suc n) (t ∷ ts) more le = let r = shorter m n ts more (omega arith) in (r.0, ap (λ l. t ∷ l) r.1)

module _ {T V : Type 0} (Spells : List T → V → Type 0) where
  -- what begins with more begins with less
  begins_shorter : (ts : List T) (m n : ℕ) → m ≤ n → Begins Spells (take n ts) → Begins Spells (take m ts)
  begins_shorter ts m n le b =
      let r = shorter m n ts b.0 le in
      (r.0, b.1, subst (λ l. Spells l b.1) (sym r.1) b.2)

  spelt_begins : (ts : List T) (n : ℕ) (x : V) → Spells ts x → Begins Spells (take n ts)
  spelt_begins ts n x h = (drop n ts, x, subst (λ l. Spells l x) (sym (take-append-drop n ts)) h)

  not_before : (ts : List T) (t u : ℕ) → IsPlace Spells ts t → IsPlace Spells ts u → t < u → ⊥
  not_before ts t u a b lt = let within = b.within in a.there (omega arith) (begins_shorter ts (suc t) u (omega arith) b.before)

  pub IsPlace-unique : (ts : List T) (t u : ℕ) → IsPlace Spells ts t → IsPlace Spells ts u → t ≡ u
  IsPlace-unique ts t u a b =
      elim (le_or_less t u) as (λ _. t ≡ u) [
        | inl le ↦ elim (le_or_less u t) as (λ _. t ≡ u) [ inl ge ↦ omega arith | inr lt ↦ absurd (not_before ts t u a b lt) ]
        | inr lt ↦ absurd (not_before ts u t b a lt)
      ]

  pub IsPlace-not_spelt : (ts : List T) (t : ℕ) (x : V) → IsPlace Spells ts t → Spells ts x → ⊥
  IsPlace-not_spelt ts t x a h =
      elim (le_or_less (length ts) t) as (λ _. ⊥) [
        | inl le ↦ (let within = a.within in a.at_end (omega arith) x h)
        | inr lt ↦ a.there lt (spelt_begins ts (suc t) x h)
      ]
