use Rattle.std.proofs.Common.{◌≡◌, drop}
use Rattle.code_tables.specs.Marks.{all_true}
use Rattle.code_tables.proofs.finite.are_all.Given as goal

abbrev pub invariant-loop-mark : goal.invariant-loop-mark
invariant-loop-mark l = all_true (drop l.mark-index l.marks) ≡ all_true l.marks
