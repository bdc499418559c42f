use Rattle.std.proofs.Common.{arith, append_assoc}
use Rattle.std.proofs.lemmas.Grind.{common_steps}
use Rattle.type_check.proofs.Steps.{unknowns_next}
use Rattle.type_check.proofs.results.unknowns.Goals as goal

pub loop-ty-preserved : goal.loop-ty-preserved
loop-ty-preserved c = grind (arith, common_steps, append_assoc, unknowns_next)
