use Rattle.std.proofs.Common.{map, subst}
use Rattle.std.specs.Prelude.{OnOk, IfErr}
use Rattle.fip_host.specs.Hosting.{Seen, IsStarted}
use Rattle.fip_host.specs.Keeping.{IsUsedUp}
use Rattle.fip_host.specs.Telling.{argument_word}
use Rattle.fip_host.specs.Unkept.{IsUnstartedOn}
use Rattle.fip_host.proofs.Beginning.{status_ok}
use Rattle.fip_host.proofs.Unstarted.{full_on, ranged_on, status_on}
use Rattle.fip_host.proofs.calls.values.fip_start_kept.Goals as goal

pub returns-clause-starts : goal.returns-clause-starts
returns-clause-starts c zero =
    let starts = subst (λ (m : Seen). OnOk c.start_kept.result (IsStarted c.args.number (map (argument_word m.kept) c.args.arguments.now) c.args.frames m c.start_kept.new.self)) c.machine.ensures.value c.start_kept.ensures.starts in
    status_ok c.start_kept.result c.status_of.result (IsStarted c.args.number (map (argument_word c.args.machine.now.held.kept) c.args.arguments.now) c.args.frames c.args.machine.now.held c.start_kept.new.self) c.status_of.ensures.is zero starts

pub returns-clause-uses : goal.returns-clause-uses
returns-clause-uses c zero =
    let uses = subst (λ (m : Seen). OnOk c.start_kept.result (IsUsedUp c.args.number c.args.arguments.now m c.start_kept.new.self)) c.machine.ensures.value c.start_kept.ensures.uses in
    status_ok c.start_kept.result c.status_of.result (IsUsedUp c.args.number c.args.arguments.now c.args.machine.now.held c.start_kept.new.self) c.status_of.ensures.is zero uses

pub returns-clause-full : goal.returns-clause-full
returns-clause-full c e =
    let refused = subst (λ (m : Seen). IfErr c.start_kept.result (IsUnstartedOn c.args.number c.args.arguments.now m)) c.machine.ensures.value c.start_kept.ensures.refused in
    full_on c.args.number c.args.arguments.now c.args.machine.now.held c.status_of.result c.start_kept.result c.status_of.ensures.is refused e

pub returns-clause-range : goal.returns-clause-range
returns-clause-range c e =
    let refused = subst (λ (m : Seen). IfErr c.start_kept.result (IsUnstartedOn c.args.number c.args.arguments.now m)) c.machine.ensures.value c.start_kept.ensures.refused in
    ranged_on c.args.number c.args.arguments.now c.args.machine.now.held c.status_of.result c.start_kept.result c.status_of.ensures.is refused e

pub returns-clause-status : goal.returns-clause-status
returns-clause-status c =
    let refused = subst (λ (m : Seen). IfErr c.start_kept.result (IsUnstartedOn c.args.number c.args.arguments.now m)) c.machine.ensures.value c.start_kept.ensures.refused in
    status_on c.args.number c.args.arguments.now c.args.machine.now.held c.status_of.result c.start_kept.result c.status_of.ensures.is refused
