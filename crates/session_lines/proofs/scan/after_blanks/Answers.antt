use Rattle.std.proofs.Common.{◌∙◌, sym, arith}
use Rattle.session_lines.proofs.Tokens.{blank_on, blank_ends}
use Rattle.session_lines.proofs.scan.after_blanks.Goals as goal

pub loop-i-preserved : goal.loop-i-preserved
loop-i-preserved c = record {
  from = (let h = c.loop-i.invariant.from in omega (arith, h));
  skips = c.loop-i.invariant.skips ∙ blank_on c.args.bytes.now c.loop-i.i (let h = c.loop-i-test.true in omega (arith, h)) (sym c.is_blank.ensures ∙ c.if-not-is_blank.false);
}

pub returns-then-not-is_blank-clause-skips : goal.returns-then-not-is_blank-clause-skips
returns-then-not-is_blank-clause-skips c = c.loop-i.invariant.skips ∙ blank_ends c.args.bytes.now c.loop-i.i (let h = c.loop-i-test.true in omega (arith, h)) (sym c.is_blank.ensures ∙ c.if-not-is_blank.true)
