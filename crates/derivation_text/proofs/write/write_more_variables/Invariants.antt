use Rattle.std.proofs.Common.{◌≡◌, [], ◌++◌, drop}
use Rattle.derivation_text.specs.ProofText.{more_variables}
use Rattle.derivation_text.proofs.write.write_more_variables.Given as goal

abbrev pub invariant-loop-variable : goal.invariant-loop-variable
invariant-loop-variable l = l.text.items ++ more_variables (drop l.variable-index l.variables) [] ≡ l.fn.text.items ++ more_variables l.variables []
