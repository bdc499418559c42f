use Rattle.std.proofs.Common.{rules, arith}
use Rattle.std.proofs.lemmas.Grind.{common_steps}
use Rattle.fip_rules.proofs.Shared.{after_reported}
use Rattle.fip_rules.proofs.check.check_instances.Goals as goal

pub loop-instance-preserved : goal.loop-instance-preserved
loop-instance-preserved c = record { number = search rules; least = grind (arith, common_steps, after_reported) }
