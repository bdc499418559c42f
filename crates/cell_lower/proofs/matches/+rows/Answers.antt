use Rattle.std.proofs.Common.{◌+◌, arith}
use Rattle.fip_trees.specs.TreeView.{patterns}
use Rattle.lower_parts.specs.lowering_relation.Rows as R
use Rattle.lower_parts.proofs.Folding.{rows_next, rows_end, item}
use Rattle.cell_lower.proofs.matches.+rows.Goals as goal

pub rows_of-loop-pattern-preserved : goal.rows_of-loop-pattern-preserved
rows_of-loop-pattern-preserved t c = rows_next c.loop-pattern.rows.items c.push.new.self.items c.in_ok-row_of.field-0 c.args.patterns.now c.loop-pattern.pattern-index (c.loop-pattern.pattern-index + 1) c.pattern-item.result (R.rows_of (patterns c.args.patterns.now)) c.in_ok-push.ensures.items c.in_ok-row_of.ensures.row (omega arith) (item c.args.patterns.now c.loop-pattern.pattern-index c.pattern-item.result c.loop-pattern-test.true c.pattern-item.is) c.loop-pattern.invariant

pub rows_of-returns : goal.rows_of-returns
rows_of-returns t c = record { rows = rows_end c.loop-pattern.rows.items c.args.patterns.now c.loop-pattern.pattern-index (R.rows_of (patterns c.args.patterns.now)) c.loop-pattern-test.false c.loop-pattern.invariant }
