use Rattle.std.proofs.Common.{◌≡◌, length}
use Rattle.plain_rows.specs.Rows.{count_rows}
use Rattle.plain_eval.specs.Moving.{MarkedBelow, ClosedFrom}
use Rattle.plain_eval.proofs.collect.reached.Given as goal

abbrev pub invariant-loop-row : goal.invariant-loop-row
invariant-loop-row l = record {
  rows : length l.reached.items ≡ count_rows l.store;
  roots : MarkedBelow (count_rows l.store) l.reached.items l.values;
  closed : ClosedFrom l.row l.store l.reached.items;
}

abbrev pub decreases-loop-row : goal.decreases-loop-row
decreases-loop-row l = l.row
