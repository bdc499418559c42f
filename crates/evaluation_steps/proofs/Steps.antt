-- How a run goes on after a call out of tail position, after a call that is counted, and after a sum.
use Rattle.std.proofs.Common.{◌≡◌, ℕ, zero, suc, ◌≤◌, ℤ, true, false, if◌then◌else◌, arith, refl, sym, subst, ap}
use Rattle.fip_language.specs.declared.Place.{Place}
use Rattle.fip_language.specs.declared.TrapKind.TheVariants.{Overflow}
use Rattle.fip_language.specs.Values.{Int, Values}
use Rattle.fip_language.specs.Arithmetic.{Is, Fails, fits, int_or_overflow}
use Rattle.fip_language.specs.Meaning.{Answer, Gives, Trap, Run, go_on, counted, operated}
use Rattle.fip_language.specs.Theorems.{AtMost}
use Rattle.evaluation_steps.specs.Gives.{GivesLeaving, one}

-- after a call that gave values, the rest goes on with them
pub after_call : {q r k : ℕ} {us ws : Values} (a : Answer) (go : Values → ℕ → Run) → GivesLeaving r us a → AtMost k a → ((left : ℕ) → r ≤ left → left ≤ k → GivesLeaving q ws (go us left).answer) → GivesLeaving q ws (go_on a go).answer
after_call {q} {r} {k} {us} {ws} a go h most next =
    let within : AtMost k (Gives us h.left) = subst (AtMost k) h.is most in
    subst (λ x. GivesLeaving q ws (go_on x go).answer) (sym h.is) (next h.left h.enough within)

pub counted_on : {q : ℕ} {ws : Values} (k : ℕ) (go : ℕ → Run) → 1 ≤ k → ((j : ℕ) → suc j ≡ k → GivesLeaving q ws (go j).answer) → GivesLeaving q ws (counted k go).answer
counted_on zero go le next = absurd (omega arith)
counted_on (suc k) go le next = next k refl

-- a sum that fits, and one that doesn't
pub summed : {q : ℕ} {ws : Values} (i : ℤ) (p : Place) (k : ℕ) (go : Values → ℕ → Run) → fits i ≡ true → GivesLeaving q ws (go (one (Int i)) k).answer → GivesLeaving q ws (go_on (operated (int_or_overflow i) p k).answer go).answer
summed {q} {ws} i p k go e h = subst (λ b. GivesLeaving q ws (go_on (operated (if b then Is (Int i) else Fails Overflow) p k).answer go).answer) (sym e) h

pub sum_then : (i : ℤ) (p : Place) (k : ℕ) (go : Values → ℕ → Run) → fits i ≡ true → (go_on (operated (int_or_overflow i) p k).answer go).answer ≡ (go (one (Int i)) k).answer
sum_then i p k go e = ap (λ b. (go_on (operated (if b then Is (Int i) else Fails Overflow) p k).answer go).answer) e

pub overflowed : (i : ℤ) (p : Place) (k : ℕ) (go : Values → ℕ → Run) → fits i ≡ false → (go_on (operated (int_or_overflow i) p k).answer go).answer ≡ Trap Overflow p.line p.col
overflowed i p k go e = ap (λ b. (go_on (operated (if b then Is (Int i) else Fails Overflow) p k).answer go).answer) e
