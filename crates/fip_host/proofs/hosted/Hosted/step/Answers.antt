use Rattle.std.proofs.Common.{◌≡◌, ◌∙◌, Option, Some, refl, sym, ap, subst}
use Rattle.std.specs.Prelude.{option_map, IfSome}
use Rattle.fip_machine.specs.machine_cells.machine_semantics.Cells.{Store}
use Rattle.fip_machine.specs.machine_cells.Small.{store_of}
use Rattle.fip_machine.specs.declared.stack.paused.Paused.{Paused}
use Rattle.fip_machine.specs.Pausing.{CanResume, stand_of}
use Rattle.fip_host.specs.Hosting.{Seen}
use Rattle.fip_host.specs.Statuses.{end_by}
use Rattle.fip_host.proofs.Stepping.{resumed, stands, has_stepped, Steps, Stays}
use Rattle.fip_host.proofs.hosted.Hosted.step.Goals as goal

pub resume-stack-requires : goal.resume-stack-requires
resume-stack-requires c =
    let i = c.self.inside in
    let taken : i.task ≡ Some c.in-Some.paused = sym c.take.ensures.value ∙ c.in-Some.is in
    record { can = subst (λ (o : Option Paused). IfSome o (CanResume i.verified)) taken c.self.invariant.resumes }

pub invariant_of-self : goal.invariant_of-self
invariant_of-self c = record {
  table = c.self.invariant.table;
  resumes = resumed c.self.inside.verified c.in-Some.paused c.pause.result c.resume-stack.result c.step-stepped.new.self c.resume-stack.ensures.same c.step-stepped.ensures.code c.pause.ensures.can;
  empty = c.step-stepped.ensures.pushed c.self.invariant.empty;
  small = c.step-stepped.ensures.small c.self.invariant.small;
  safe = tt;
}

pub returns-in-Some-clause-steps : goal.returns-in-Some-clause-steps
returns-in-Some-clause-steps c =
    let i = c.self.inside in
    let v = i.verified in
    let p = c.in-Some.paused in
    let q = c.pause.result in
    let a = c.resume-stack.result in
    let b = c.step-stepped.new.self in
    let k = c.step-stepped.new.cells in
    let s = c.step-stepped.result in
    let old = c.args.self.now in
    let new : Seen = record { code = v; task = Some (stand_of v q); store = store_of k.cells k.released; left = k.left; gauge = i.gauge; entry = i.entry; is_open = i.is_open; kept = i.kept.items } in
    let taken : i.task ≡ Some p = sym c.take.ensures.value ∙ c.in-Some.is in
    let is_old : old.task ≡ Some (stand_of v p) = sym (ap (λ (m : Seen). m.task) c.self.view_is) ∙ ap (λ (o : Option Paused). option_map (stand_of v) o) taken in
    let store : store_of i.cells.cells i.cells.released ≡ old.store = ap (λ (m : Seen). m.store) c.self.view_is in
    let going : Steps a b old.store new.store s = subst (λ (st : Store). Steps a b st new.store s) store (λ going kinds knows lent. c.step-stepped.ensures.next kinds knows going c.self.invariant.small c.self.invariant.empty lent) in
    let over : Stays a b old.store new.store s = subst (λ (st : Store). Stays a b st new.store s) store c.step-stepped.ensures.ended in
    let stood = stands v p q a b c.resume-stack.ensures.same c.step-stepped.ensures.code c.pause.ensures.same in
    has_stepped v p q a b old new s c.end_of.result is_old refl c.resume-stack.ensures.same stood (c.end_of.ensures.is ∙ ap end_by c.ended_by.ensures.is) going c.step-stepped.ensures.ends over
