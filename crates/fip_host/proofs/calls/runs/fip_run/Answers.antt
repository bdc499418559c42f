use Rattle.std.proofs.Common.{subst}
use Rattle.fip_host.specs.Hosting.{Seen, RunsOn}
use Rattle.fip_host.proofs.calls.runs.fip_run.Goals as goal

pub returns-clause-runs : goal.returns-clause-runs
returns-clause-runs c = subst (λ (m : Seen). RunsOn m c.args.calls c.run.new.self c.run.result) c.machine.ensures.value c.run.ensures.runs
