-- What an operator gives is of its type: an int of 64 bits, or a truth.
use Rattle.std.proofs.Common.{◌≡◌, ◌<◌, ◌≤◌, ◌^◌, ℕ, zero, suc, ℤ, pos, negsuc, ◌+ℤ◌, ◌-ℤ◌, ◌*ℤ◌, Bool, true, false, not, if◌then◌else◌, int_lt, int_le, int_div, int_rem, unsigned_abs, FitsSigned, arith, refl, sym, subst}
use Rattle.std.specs.Int.{w64}
use Rattle.std.proofs.lemmas.Bool.{ltb-true}
use Rattle.std.proofs.lemmas.Int.{rem_below, fits_signed_from_abs}
use Rattle.match_cover.specs.fip_language.declared.Operator.{Operator}
use Rattle.match_cover.specs.fip_language.declared.Operator.TheVariants as O
use Rattle.match_cover.specs.fip_language.declared.TrapKind.TheVariants.{Overflow, DivideByZero}
use Rattle.match_cover.specs.fip_language.Values.{Int, Node, End}
use Rattle.match_cover.specs.fip_language.Table.{Table, HasType, HaveTypes}
use Rattle.match_cover.specs.fip_language.Matching.{same_int}
use Rattle.match_cover.specs.fip_language.Arithmetic.{Operated, Is, Fails, fits, int_or_overflow, truth, operate}
use Rattle.type_check.specs.World.{result_of}
use Rattle.type_safety.specs.Formed.{IsBare}
use Rattle.type_check.proofs.fip_language.Facts.{abs_fits}

fits_signed : (i : ℤ) → fits i ≡ true → FitsSigned w64 i
fits_signed (pos n) e = record { sfits = ltb-true n (2 ^ 63) e }
fits_signed (negsuc n) e = record { sfits = ltb-true n (2 ^ 63) e }

some_abs : (j : ℤ) → same_int j (pos 0) ≡ false → 0 < unsigned_abs j
some_abs (pos zero) e = absurd (cc)
some_abs (pos (suc n)) e = omega arith
some_abs (negsuc n) e = omega arith

remainder_fits : (i j : ℤ) → FitsSigned w64 j → same_int j (pos 0) ≡ false → FitsSigned w64 (int_rem i j)
remainder_fits i j f e =
    let below = rem_below i j (some_abs j e) in
    let most = abs_fits j f in
    fits_signed_from_abs w64 (int_rem i j) (omega arith)

-- an operator's value is of the type
abbrev pub IsOf : Table → ℕ → Operated → Type 0
IsOf tb t (Is v) = HasType tb t v
IsOf tb t (Fails kind) = Unit {0}

int_of : (tb : Table) (i : ℤ) (b : Bool) → fits i ≡ b → IsOf tb 0 (if b then Is (Int i) else Fails Overflow)
int_of tb i true e = fits_signed i e
int_of tb i false e = tt

int_or_overflow_of : (tb : Table) (i : ℤ) → IsOf tb 0 (int_or_overflow i)
int_or_overflow_of tb i = int_of tb i (fits i) refl

unless_zero_of : (tb : Table) (t : ℕ) (b : Bool) (o : Operated) → (b ≡ false → IsOf tb t o) → IsOf tb t (if b then Fails DivideByZero else o)
unless_zero_of tb t true o h = tt
unless_zero_of tb t false o h = h refl

bare_of : (tb : Table) (t c : ℕ) → IsBare tb (suc t) c → HasType tb (suc t) (Node c End)
bare_of tb t c h = (h.0, h.1, subst (λ ts. HaveTypes tb ts End) (sym h.2) tt)

truth_of : (tb : Table) → IsBare tb 1 0 → IsBare tb 1 1 → (b : Bool) → IsOf tb 1 (truth b)
truth_of tb f t true = bare_of tb 0 1 t
truth_of tb f t false = bare_of tb 0 0 f

pub operate_of : (tb : Table) → IsBare tb 1 0 → IsBare tb 1 1 → (o : Operator) (i j : ℤ) → FitsSigned w64 j → IsOf tb (result_of o) (operate o i j)
operate_of tb f t O.Add i j h = int_or_overflow_of tb (i +ℤ j)
operate_of tb f t O.Subtract i j h = int_or_overflow_of tb (i -ℤ j)
operate_of tb f t O.Multiply i j h = int_or_overflow_of tb (i *ℤ j)
operate_of tb f t O.Divide i j h = unless_zero_of tb 0 (same_int j (pos 0)) _ (λ e. int_or_overflow_of tb (int_div i j))
operate_of tb f t O.Remainder i j h = unless_zero_of tb 0 (same_int j (pos 0)) _ (λ e. remainder_fits i j h e)
operate_of tb f t O.Equal i j h = truth_of tb f t (same_int i j)
operate_of tb f t O.NotEqual i j h = truth_of tb f t (not (same_int i j))
operate_of tb f t O.Less i j h = truth_of tb f t (int_lt i j)
operate_of tb f t O.LessOrEqual i j h = truth_of tb f t (int_le i j)
operate_of tb f t O.Greater i j h = truth_of tb f t (int_lt j i)
operate_of tb f t O.GreaterOrEqual i j h = truth_of tb f t (int_le j i)
