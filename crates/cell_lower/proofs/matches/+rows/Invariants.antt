use Rattle.std.proofs.Common.{◌≡◌, drop}
use Rattle.fip_trees.specs.TreeView.{patterns}
use Rattle.lower_parts.specs.lowering_relation.Rows as R
use Rattle.lower_parts.proofs.Folding.{before_rows}
use Rattle.cell_lower.proofs.matches.+rows.Given as goal

abbrev pub invariant-rows_of-loop-pattern : goal.invariant-rows_of-loop-pattern
invariant-rows_of-loop-pattern l = before_rows l.rows.items (R.rows_of (patterns (drop l.pattern-index l.patterns))) ≡ R.rows_of (patterns l.patterns)
