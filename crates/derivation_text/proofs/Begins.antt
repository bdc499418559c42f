-- The test of the first digits of a number, as the code makes it.
use Rattle.std.proofs.Common.{◌≡◌, ℕ, zero, suc, ◌+◌, ◌*◌, ◌<◌, ◌≤◌, true, false, refl, ap, ◌∙◌, arith}
use Rattle.std.specs.Prelude.{◌&&◌, ◌==◌, nat_lt, nat_le, if◌then◌else◌}
use Rattle.std.proofs.lemmas.Bool.{le-leb, lt-ltb, le-ltb, lt-leb}
use Rattle.derivation_text.specs.Machine.{reaches, begins}
use Rattle.derivation_text.proofs.Digits.{if_yes, if_not, begins_zero, begins_more}
pub use Rattle.derivation_text.proofs.Digits.{begins_more as begins_some}

pub begins_none : (n least most : ℕ) → n ≡ 0 → begins n least most ≡ (least == 0)
begins_none n least most e = ap (λ n. begins n least most) e ∙ begins_zero least most

pub reaches_past : (k low high least most : ℕ) → most < low → reaches k low high least most ≡ false
unfolding reaches
reaches_past zero low high least most lt = refl
reaches_past (suc k) low high least most lt = if_yes (nat_lt most low) false (if nat_le least high then true else reaches k (10 * low) (10 * high + 9) least most) (lt-ltb most low lt)

pub reaches_there : (k low high least most : ℕ) → 0 < k → low ≤ most → least ≤ high → reaches k low high least most ≡ true
unfolding reaches
reaches_there zero low high least most pos le there = absurd (omega arith)
reaches_there (suc k) low high least most pos le there =
    if_not (nat_lt most low) false (if nat_le least high then true else reaches k (10 * low) (10 * high + 9) least most) (le-ltb most low le)
    ∙ if_yes (nat_le least high) true (reaches k (10 * low) (10 * high + 9) least most) (le-leb least high there)

pub reaches_on : (k j low high least most : ℕ) → k ≡ suc j → low ≤ most → high < least → reaches k low high least most ≡ reaches j (10 * low) (10 * high + 9) least most
unfolding reaches
reaches_on zero j low high least most e le lt = absurd (omega (arith, e))
reaches_on (suc k) j low high least most e le lt =
    if_not (nat_lt most low) false (if nat_le least high then true else reaches k (10 * low) (10 * high + 9) least most) (le-ltb most low le)
    ∙ if_not (nat_le least high) true (reaches k (10 * low) (10 * high + 9) least most) (lt-leb least high lt)
    ∙ ap (λ k. reaches k (10 * low) (10 * high + 9) least most) (let f : k ≡ j = omega (arith, e) in f)

pub reaches_no : (k low high least most : ℕ) → k ≡ 0 → reaches k low high least most ≡ false
unfolding reaches
reaches_no zero low high least most e = refl
reaches_no (suc k) low high least most e = absurd (omega (arith, e))
