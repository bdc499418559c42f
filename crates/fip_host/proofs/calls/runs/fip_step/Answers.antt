use Rattle.std.proofs.Common.{subst}
use Rattle.fip_host.specs.Hosting.{Seen, StepsTo}
use Rattle.fip_host.proofs.calls.runs.fip_step.Goals as goal

pub returns-clause-steps : goal.returns-clause-steps
returns-clause-steps c = subst (λ (m : Seen). StepsTo m c.step.new.self c.step.result) c.machine.ensures.value c.step.ensures.steps
