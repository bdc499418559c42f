use Rattle.std.proofs.Common.{subst}
use Rattle.std.specs.Prelude.{OnOk, IfErr}
use Rattle.fip_host.specs.Hosting.{Seen, IsStarted}
use Rattle.fip_host.specs.Starting.{IsUnstarted}
use Rattle.fip_host.proofs.Beginning.{status_ok}
use Rattle.fip_host.proofs.Unstarted.{full, ranged, status}
use Rattle.fip_host.proofs.calls.runs.fip_start.Goals as goal

pub returns-clause-starts : goal.returns-clause-starts
returns-clause-starts c zero =
    let starts = subst (λ (m : Seen). OnOk c.start.result (IsStarted c.args.number c.args.arguments.now c.args.frames m c.start.new.self)) c.machine.ensures.value c.start.ensures.starts in
    status_ok c.start.result c.status_of.result (IsStarted c.args.number c.args.arguments.now c.args.frames c.args.machine.now.held c.start.new.self) c.status_of.ensures.is zero starts

pub returns-clause-full : goal.returns-clause-full
returns-clause-full c e =
    let refused = subst (λ (m : Seen). IfErr c.start.result (IsUnstarted c.args.number c.args.arguments.now m c.start.new.self)) c.machine.ensures.value c.start.ensures.refused in
    full c.args.number c.args.arguments.now c.args.machine.now.held c.start.new.self c.status_of.result c.start.result c.status_of.ensures.is refused e

pub returns-clause-range : goal.returns-clause-range
returns-clause-range c e =
    let refused = subst (λ (m : Seen). IfErr c.start.result (IsUnstarted c.args.number c.args.arguments.now m c.start.new.self)) c.machine.ensures.value c.start.ensures.refused in
    (ranged c.args.number c.args.arguments.now c.args.machine.now.held c.start.new.self c.status_of.result c.start.result c.status_of.ensures.is refused e).0

pub returns-clause-same : goal.returns-clause-same
returns-clause-same c e =
    let refused = subst (λ (m : Seen). IfErr c.start.result (IsUnstarted c.args.number c.args.arguments.now m c.start.new.self)) c.machine.ensures.value c.start.ensures.refused in
    (ranged c.args.number c.args.arguments.now c.args.machine.now.held c.start.new.self c.status_of.result c.start.result c.status_of.ensures.is refused e).1

pub returns-clause-status : goal.returns-clause-status
returns-clause-status c =
    let refused = subst (λ (m : Seen). IfErr c.start.result (IsUnstarted c.args.number c.args.arguments.now m c.start.new.self)) c.machine.ensures.value c.start.ensures.refused in
    status c.args.number c.args.arguments.now c.args.machine.now.held c.start.new.self c.status_of.result c.start.result c.status_of.ensures.is refused
