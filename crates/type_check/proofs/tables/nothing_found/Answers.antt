use Rattle.std.proofs.Common.{arith, append_assoc}
use Rattle.std.proofs.lemmas.Grind.{common_steps}
use Rattle.type_check.proofs.Plains.{nothing_next}
use Rattle.type_check.proofs.tables.nothing_found.Goals as goal

pub loop-arity-preserved : goal.loop-arity-preserved
loop-arity-preserved c = grind (arith, common_steps, append_assoc, nothing_next)
