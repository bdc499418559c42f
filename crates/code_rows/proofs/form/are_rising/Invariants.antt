use Rattle.std.proofs.Common.{◌≡◌, drop}
use Rattle.code_rules.specs.Headers as h
use Rattle.code_rows.proofs.form.are_rising.Given as goal

abbrev pub invariant-loop-number : goal.invariant-loop-number
invariant-loop-number l = h.are_rising l.count l.low (drop l.number-index l.numbers) ≡ h.are_rising l.count 0 l.numbers
