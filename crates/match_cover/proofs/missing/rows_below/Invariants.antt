use Rattle.std.proofs.Common.{◌≡◌, ◌++◌, drop}
use Rattle.match_cover.specs.Missing.{rows_below}
use Rattle.match_cover.specs.MissingView.{lent_rows}
use Rattle.match_cover.proofs.missing.rows_below.Given as goal

abbrev pub invariant-loop-row : goal.invariant-loop-row
invariant-loop-row l = lent_rows l.below.items ++ rows_below l.head l.j (lent_rows (drop l.row-index l.here)) ≡ rows_below l.head l.j (lent_rows l.here)
