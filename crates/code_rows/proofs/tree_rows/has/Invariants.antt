use Rattle.std.proofs.Common.{◌≡◌, drop}
use Rattle.code_rules.specs.Kinds.{has}
use Rattle.code_rows.proofs.tree_rows.has.Given as goal

abbrev pub invariant-loop-register : goal.invariant-loop-register
invariant-loop-register l = has (drop l.register-index l.registers) l.wanted ≡ has l.registers l.wanted
