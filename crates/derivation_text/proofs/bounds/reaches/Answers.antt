use Rattle.std.proofs.Common.{◌-◌, ◌+◌, sym, ◌∙◌, arith}
use Rattle.derivation_text.proofs.Begins.{reaches_on, reaches_no}
use Rattle.derivation_text.proofs.bounds.reaches.Goals as goal

pub loop-digits-preserved : goal.loop-digits-preserved
loop-digits-preserved c =
    let lt = c.loop-digits-test.true in
    sym (reaches_on (10 - c.loop-digits.digits) (10 - (c.loop-digits.digits + 1)) c.loop-digits.low c.loop-digits.high c.args.least c.args.greatest
    (omega (arith, lt)) c.if-greatest-low.false c.if-least-high.false)
    ∙ c.loop-digits.invariant

pub returns : goal.returns
returns c =
    let ge = c.loop-digits-test.false in
    sym (reaches_no (10 - c.loop-digits.digits) c.loop-digits.low c.loop-digits.high c.args.least c.args.greatest (omega (arith, ge)))
    ∙ c.loop-digits.invariant
