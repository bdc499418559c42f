use Rattle.std.proofs.Common.{sym, ◌∙◌, arith, ◌+◌}
use Rattle.match_knowledge.specs.View.{known}
use Rattle.lower_parts.proofs.Choosing.{missed_next}
use Rattle.lower_parts.proofs.choice.first_of.Goals as goal

pub loop-number-preserved : goal.loop-number-preserved
loop-number-preserved c = missed_next c.args.rows.now (known c.args.known.now) c.loop-number.number (c.loop-number.number + 1) c.index-rows-number.result c.compare-verdict.result (omega arith) c.loop-number-test.true c.index-rows-number.is c.compare-verdict.ensures (sym c.is_fits.ensures ∙ c.if-is_fits.false) (sym c.is_asks.ensures ∙ c.if-is_asks.false) c.loop-number.invariant
