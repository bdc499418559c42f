use Rattle.std.proofs.Common.{length}
use Rattle.cell_code.specs.Plain.{plain}
use Rattle.code_rows.specs.Noting.{Answers}
use Rattle.code_verify.specs.Surveying.{OwnBelow}
use Rattle.code_verify.proofs.accept.least_of.Given as goal

abbrev pub invariant-loop-number : goal.invariant-loop-number
invariant-loop-number l = Answers (OwnBelow (plain l.code) (length (plain l.code).functions) l.number) l.least.first
