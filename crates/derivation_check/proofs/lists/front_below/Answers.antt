use Rattle.std.proofs.Common.{ap, arith, subst, ◌≡◌, drop, sym, ◌+◌, refl, get_or, ◌∙◌}
use Rattle.ownership_calculus.specs.Terms.{given}
use Rattle.derivation_check.proofs.Numbers.{high_part, low_next}
use Rattle.derivation_check.proofs.lists.front_below.Goals as goal

pub returns-then-number-below-clause-high : goal.returns-then-number-below-clause-high
returns-then-number-below-clause-high c n d h x l = ap (λ i. given x (drop i c.args.numbers.now)) c.loop-number.invariant.place ∙ high_part n d c.loop-number.number-index c.args.below (get_or c.args.numbers.now c.loop-number.number-index 0) x c.args.numbers.now h c.loop-number-test.true refl c.if-number-below.true l

pub loop-number-preserved : goal.loop-number-preserved
loop-number-preserved c = record {
  place = ap (λ i. i + 1) c.loop-number.invariant.place;
  low = low_next c.args.numbers.now c.loop-number.number-index (get_or c.args.numbers.now c.loop-number.number-index 0) c.args.below c.loop-number-test.true refl c.if-number-below.false c.loop-number.invariant.low;
}
