use Rattle.std.proofs.Common.{◌≡◌, take}
use Rattle.cell_lower.proofs.copies.table_of.Given as goal

abbrev pub invariant-loop-place : goal.invariant-loop-place
invariant-loop-place l = l.table ≡ take l.place l.types
