use Rattle.std.proofs.Common.{rules}
use Rattle.match_cover.proofs.MissingSteps.{tested_here, tested_next}
use Rattle.match_cover.proofs.missing.is_tested.Goals as goal

pub returns-then-is_test : goal.returns-then-is_test
returns-then-is_test c = tested_here c.args.here.now c.loop-row.row-index c.row-item.result c.is_test.result (search rules) c.row-item.is c.is_test.ensures c.if-is_test.true c.loop-row.invariant

pub loop-row-preserved : goal.loop-row-preserved
loop-row-preserved c = tested_next c.args.here.now c.loop-row.row-index c.row-item.result c.is_test.result (search rules) c.row-item.is c.is_test.ensures c.if-is_test.false c.loop-row.invariant
