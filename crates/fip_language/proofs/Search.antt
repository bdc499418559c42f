-- What is found in a list, and facts on numbers that are decided.
use Rattle.std.proofs.Common.{◌≡◌, ◌≢◌, ◌⊎◌, inl, inr, ℕ, zero, suc, ◌<◌, ◌≤◌, List, [], ◌∷◌, length, Bool, true, false, Some, refl, sym, arith}
use Rattle.std.specs.Prelude.{slice_get, nat_eq, bytes_eq}
use Rattle.std.proofs.lemmas.Bool.{eqb-true, eqb-false}
use Rattle.std.proofs.lemmas.Slice.Eq.{bytes_eq-Decides}
use Rattle.fip_language.specs.Every.{Every, Among}
pub use Rattle.fip_language.proofs.Facts.{get_there as slice_get_there, le_or_less}

same_by : (b : Bool) (m n : ℕ) → nat_eq m n ≡ b → (m ≢ n → ⊥) → m ≡ n
same_by true m n e h = eqb-true m n e
same_by false m n e h = absurd (h (eqb-false m n e))

pub same_unless : (m n : ℕ) → (m ≢ n → ⊥) → m ≡ n
same_unless m n h = same_by (nat_eq m n) m n refl h

pub every_from : {A : Type 0} (P : A → Type 0) (xs : List A) → ((x : A) → Among x xs → P x) → Every P xs
every_from P [] h = tt
every_from P (x ∷ xs) h = (h x (inl refl), every_from P xs (λ y a. h y (inr a)))

-- other bytes aren't equal
pub bytes_eq-other : (a b : List ℕ) → (b ≡ a → ⊥) → bytes_eq a b ≡ false
bytes_eq-other a b n =
    let P : Bool → Type 0 = λ v. bytes_eq a b ≡ v → v ≡ false in
    let cases : P (bytes_eq a b) = elim (bytes_eq a b) as P [ true ↦ λ e. absurd (n (sym ((bytes_eq-Decides a b).0 e))) | false ↦ λ _. refl ] in
    cases refl
