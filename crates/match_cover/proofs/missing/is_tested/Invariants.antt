use Rattle.std.proofs.Common.{◌≡◌, drop}
use Rattle.match_cover.specs.Missing.{is_tested}
use Rattle.match_cover.specs.MissingView.{lent_rows}
use Rattle.match_cover.proofs.missing.is_tested.Given as goal

abbrev pub invariant-loop-row : goal.invariant-loop-row
invariant-loop-row l = is_tested (lent_rows (drop l.row-index l.here)) ≡ is_tested (lent_rows l.here)
