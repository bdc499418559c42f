use Rattle.std.proofs.Common.{◌≡◌, drop}
use Rattle.code_tables.specs.Rows.{are_sound_rows}
use Rattle.code_tables.proofs.tables.are_sound_rows.Given as goal

abbrev pub invariant-loop-place : goal.invariant-loop-place
invariant-loop-place l = are_sound_rows l.types (drop l.place l.types) ≡ are_sound_rows l.types l.types
