use Rattle.std.proofs.Common.{◌≡◌, drop}
use Rattle.code_rules.specs.Ranges.{are_below}
use Rattle.code_rows.proofs.range.are_below.Given as goal

abbrev pub invariant-loop-register : goal.invariant-loop-register
invariant-loop-register l = are_below l.n (drop l.register-index l.registers) ≡ are_below l.n l.registers
