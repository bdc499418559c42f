-- When an int plus 1 has 64 bits.
use Rattle.std.proofs.Common.{◌≡◌, ◌≢◌, ℕ, ◌<◌, ◌^◌, true, ℤ, pos, negsuc, FitsSigned, int_lt, List, [], ◌∷◌, inl, inr, arith, lt-ltb, refl, sym, ap}
use borrow.Author.Gap.{up_fits}
use Rattle.std.specs.Int.{w64}
use Rattle.fip_language.specs.Arithmetic.{fits}
use Rattle.fip_language.specs.Every.{Every, Among}
use Rattle.evaluation_steps.specs.Sums.{greatest, incremented, CanIncrement}

pub fits_true : (i : ℤ) → FitsSigned w64 i → fits i ≡ true
fits_true (pos n) h = lt-ltb n (2 ^ 63) h.sfits
fits_true (negsuc n) h = lt-ltb n (2 ^ 63) h.sfits

below_greatest : (x : ℤ) → CanIncrement x → int_lt x greatest ≡ true
below_greatest (pos n) h = lt-ltb n 9223372036854775807 (by n h.fits.sfits (λ e. h.below (ap pos e)))
  where
    by : (n : ℕ) → n < 2 ^ 63 → n ≢ 9223372036854775807 → n < 9223372036854775807
    by n lt ne = omega arith
below_greatest (negsuc n) h = refl

greatest_fits : FitsSigned w64 greatest
greatest_fits = record { sfits = omega arith }

pub can_increment : (x : ℤ) → CanIncrement x → fits (incremented x) ≡ true
can_increment x h = fits_true (incremented x) (up_fits w64 x greatest (below_greatest x h) h.fits greatest_fits)

pub all_can_increment : (xs : List ℤ) → Every (FitsSigned w64) xs → (Among greatest xs → ⊥) → Every CanIncrement xs
all_can_increment [] h n = tt
all_can_increment (x ∷ xs) h n = (record { fits = h.0; below = λ e. n (inl (sym e)) }, all_can_increment xs h.1 (λ a. n (inr a)))
