use Rattle.cell_code.specs.Plain.{plain}
use Rattle.code_verify.proofs.Surveyed.{IsSurveyed}
use Rattle.code_verify.proofs.accept.walked_over.Given as goal

abbrev pub invariant-loop-number : goal.invariant-loop-number
invariant-loop-number l = IsSurveyed (plain l.code) l.number l.least.first l.calls.items l.waiting.items l.drops.items
