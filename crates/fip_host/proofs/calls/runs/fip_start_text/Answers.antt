use Rattle.std.proofs.Common.{inl, subst}
use Rattle.fip_host.specs.Hosting.{Seen}
use Rattle.fip_host.specs.Starting.{IsTextStarted, KeepsFromText}
use Rattle.fip_host.proofs.Refusing.{bad, large, lost, ranged, same, status}
use Rattle.fip_host.proofs.calls.runs.fip_start_text.Goals as goal

pub returns-in-Ok-clause-starts : goal.returns-in-Ok-clause-starts
returns-in-Ok-clause-starts c _ = subst (λ (m : Seen). IsTextStarted c.args.number c.args.text.now c.args.frames m c.start_text.new.self) c.machine.ensures.value c.in-Ok.ensures.starts

pub returns-in-Err-clause-bad : goal.returns-in-Err-clause-bad
returns-in-Err-clause-bad c e =
    let keeps = subst (λ (m : Seen). KeepsFromText c.args.number c.args.text.now m c.start_text.new.self c.in-Err.refusal) c.machine.ensures.value c.in-Err.ensures.keeps in
    bad c.args.number c.args.text.now c.args.machine.now.held c.start_text.new.self c.told.result c.args.loaded.now c.told.new.loaded c.in-Err.refusal c.told.ensures.is c.told.ensures.told keeps e

pub returns-in-Err-clause-large : goal.returns-in-Err-clause-large
returns-in-Err-clause-large c e =
    let keeps = subst (λ (m : Seen). KeepsFromText c.args.number c.args.text.now m c.start_text.new.self c.in-Err.refusal) c.machine.ensures.value c.in-Err.ensures.keeps in
    large c.args.number c.args.text.now c.args.machine.now.held c.start_text.new.self c.told.result c.args.loaded.now c.told.new.loaded c.in-Err.refusal c.told.ensures.is c.told.ensures.told keeps e

pub returns-in-Err-clause-lost : goal.returns-in-Err-clause-lost
returns-in-Err-clause-lost c e =
    let keeps = subst (λ (m : Seen). KeepsFromText c.args.number c.args.text.now m c.start_text.new.self c.in-Err.refusal) c.machine.ensures.value c.in-Err.ensures.keeps in
    lost c.args.number c.args.text.now c.args.machine.now.held c.start_text.new.self c.told.result c.args.loaded.now c.told.new.loaded c.in-Err.refusal c.told.ensures.is keeps e

pub returns-in-Err-clause-range : goal.returns-in-Err-clause-range
returns-in-Err-clause-range c e =
    let keeps = subst (λ (m : Seen). KeepsFromText c.args.number c.args.text.now m c.start_text.new.self c.in-Err.refusal) c.machine.ensures.value c.in-Err.ensures.keeps in
    inl (ranged c.args.number c.args.text.now c.args.machine.now.held c.start_text.new.self c.told.result c.args.loaded.now c.told.new.loaded c.in-Err.refusal c.told.ensures.is keeps e)

pub returns-in-Err-clause-same : goal.returns-in-Err-clause-same
returns-in-Err-clause-same c e =
    let keeps = subst (λ (m : Seen). KeepsFromText c.args.number c.args.text.now m c.start_text.new.self c.in-Err.refusal) c.machine.ensures.value c.in-Err.ensures.keeps in
    same c.args.number c.args.text.now c.args.machine.now.held c.start_text.new.self c.told.result c.args.loaded.now c.told.new.loaded c.in-Err.refusal c.told.ensures.is keeps e

pub returns-in-Err-clause-status : goal.returns-in-Err-clause-status
returns-in-Err-clause-status c =
    let keeps = subst (λ (m : Seen). KeepsFromText c.args.number c.args.text.now m c.start_text.new.self c.in-Err.refusal) c.machine.ensures.value c.in-Err.ensures.keeps in
    status c.args.number c.args.text.now c.args.machine.now.held c.start_text.new.self c.told.result c.args.loaded.now c.told.new.loaded c.in-Err.refusal c.told.ensures.is keeps
