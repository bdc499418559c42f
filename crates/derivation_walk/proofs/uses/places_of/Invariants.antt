use Rattle.std.proofs.Common.{◌≡◌, drop, length}
use Rattle.derivation_walk.specs.Tables.{rows, rows_from, empty_rows}
use Rattle.derivation_walk.proofs.uses.places_of.Given as goal

abbrev pub invariant-loop-occurrence : goal.invariant-loop-occurrence
invariant-loop-occurrence l = rows_from l.is_all (rows l.places.items) (drop l.occurrence-index l.occurrence-items) ≡ rows_from l.is_all (empty_rows (length l.found.variables.items)) l.found.occurrences.items
