use Rattle.std.proofs.Common.{rules, arith}
use Rattle.std.proofs.lemmas.Grind.{common_steps}
use Rattle.type_check.proofs.Steps.{others_drop}
use Rattle.type_check.proofs.results.some_differ.Goals as goal

pub loop-ty-preserved : goal.loop-ty-preserved
loop-ty-preserved c = record { index = search rules; rest = grind (arith, common_steps, others_drop) }
