use Rattle.std.proofs.Common.{◌≡◌, map, take}
use Rattle.plain_eval.specs.Moving.{placed}
use Rattle.plain_eval.proofs.collect.move_row.Given as goal

abbrev pub invariant-loop-field : goal.invariant-loop-field
invariant-loop-field l = l.fields.items ≡ map (placed l.places) (take l.field-index l.field-items)
