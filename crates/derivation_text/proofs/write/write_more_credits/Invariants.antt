use Rattle.std.proofs.Common.{◌≡◌, [], ◌++◌, drop}
use Rattle.derivation_text.specs.ProofText.{more_credits}
use Rattle.derivation_text.proofs.write.write_more_credits.Given as goal

abbrev pub invariant-loop-credit : goal.invariant-loop-credit
invariant-loop-credit l = l.text.items ++ more_credits (drop l.credit-index l.credits) [] ≡ l.fn.text.items ++ more_credits l.credits []
