use Rattle.std.proofs.Common.{◌≡◌, ◌∙◌, [], Option, Some, refl, sym, ap, subst}
use Rattle.std.specs.Prelude.{option_map, IfSome}
use Rattle.fip_machine.specs.cell_store.Made.{Stored}
use Rattle.fip_machine.specs.machine_cells.machine_semantics.Cells.{Store}
use Rattle.fip_machine.specs.machine_cells.Small.{IsSmall, store_of}
use Rattle.fip_machine.specs.code_verify.Checked.{HasMachineInts}
use Rattle.fip_machine.specs.declared.gauge.Gauge.{Gauge}
use Rattle.fip_machine.specs.declared.stack.paused.Paused.{Paused}
use Rattle.fip_machine.specs.Pausing.{CanResume, stand_of}
use Rattle.fip_machine.specs.Tasks.{Stand}
use Rattle.code_verify.specs.code_rules.Breaks.{IsSound}
use Rattle.cell_code.specs.Plain.{plain}
use Rattle.run_safety.specs.Safe.{IsSafeTask}
use Rattle.run_safety.proofs.Alive.{safe_run, run_leaves}
use Rattle.fip_host.specs.Hosting.{Seen}
use Rattle.fip_host.proofs.Loading.{if_safe, when_safe}
use Rattle.fip_host.proofs.Stepping.{resumed, stands, has_run, same_store, Runs, Gauges}
use Rattle.fip_host.proofs.hosted.Hosted.run.Goals as goal

pub resume-requires : goal.resume-requires
resume-requires c =
    let i = c.self.inside in
    let taken : i.task ≡ Some c.in-Some.paused = sym c.take.ensures.value ∙ c.in-Some.is in
    record { can = subst (λ (o : Option Paused). IfSome o (CanResume i.verified)) taken c.self.invariant.resumes }

pub drive-ended-requires : goal.drive-ended-requires
drive-ended-requires c = record {
  safe = λ sure.
      let i = c.self.inside in
      let v = i.verified in
      let p = c.in-Some.paused in
      let m = c.of-machine.result in
      let taken : i.task ≡ Some p = sym c.take.ensures.value ∙ c.in-Some.is in
      let took : m.stack ≡ stand_of v p = c.of-machine.ensures.stack ∙ c.resume.ensures.same in
      let first : m.store ≡ store_of i.cells.cells i.cells.released = c.of-machine.ensures.store ∙ ap (λ (x : Stored). store_of x.cells x.released) c.replace-cells.ensures.value in
      let empty : m.pushed ≡ [] = c.of-machine.ensures.pushed ∙ ap (λ (x : Stored). x.pushed) c.replace-cells.ensures.value ∙ c.self.invariant.empty in
      let small : IsSmall m.store.cells = subst (λ (x : Store). IsSmall x.cells) (sym first) c.self.invariant.small in
      let laid : IsSafeTask (stand_of v p) (store_of i.cells.cells i.cells.released) = subst (λ (o : Option Paused). IfSome o (λ q. IsSafeTask (stand_of v q) (store_of i.cells.cells i.cells.released))) taken (when_safe i.is_safe _ c.self.invariant.safe (c.is_sure-is_safe.ensures.safe sure)) in
      let safe : IsSafeTask m.stack m.store = subst (λ (x : Store). IsSafeTask m.stack x) (sym first) (subst (λ (t : Stand). IsSafeTask t (store_of i.cells.cells i.cells.released)) (sym took) laid) in
      safe_run m c.args.calls
      (subst (λ (t : Stand). IsSound (plain t.code.code)) (sym took) c.is_sure-is_safe.ensures.sound)
      (subst (λ (t : Stand). HasMachineInts (plain t.code.code)) (sym took) c.is_sure-is_safe.ensures.literals)
      (ap (λ (t : Stand). t.ended) took ∙ c.is_sure-is_safe.ensures.going sure)
      small empty safe;
}

pub invariant_of-self : goal.invariant_of-self
invariant_of-self c =
    let i = c.self.inside in
    let v = i.verified in
    let p = c.in-Some.paused in
    let m = c.of-machine.result in
    let n = c.drive-ended.new.machine in
    let q = c.pause.result in
    let k = c.sealed.result in
    let s = c.into_parts-stack.result.0 in
    let took : m.stack ≡ stand_of v p = c.of-machine.ensures.stack ∙ c.resume.ensures.same in
    let code = ap (λ (t : Stand). t.code) c.into_parts-stack.ensures.stack ∙ c.drive-ended.ensures.code in
    let stood : stand_of v q ≡ s = stands v p q m.stack s took code c.pause.ensures.same in
    record {
      table = c.self.invariant.table;
      resumes = resumed v p q m.stack s took code c.pause.ensures.can;
      empty = c.sealed.ensures.pushed;
      small = c.sealed.ensures.small;
      safe = if_safe c.is_sure-is_safe.result _ (λ sure.
          let taken : i.task ≡ Some p = sym c.take.ensures.value ∙ c.in-Some.is in
          let first : m.store ≡ store_of i.cells.cells i.cells.released = c.of-machine.ensures.store ∙ ap (λ (x : Stored). store_of x.cells x.released) c.replace-cells.ensures.value in
          let empty : m.pushed ≡ [] = c.of-machine.ensures.pushed ∙ ap (λ (x : Stored). x.pushed) c.replace-cells.ensures.value ∙ c.self.invariant.empty in
          let small : IsSmall m.store.cells = subst (λ (x : Store). IsSmall x.cells) (sym first) c.self.invariant.small in
          let going = ap (λ (t : Stand). t.ended) took ∙ c.is_sure-is_safe.ensures.going sure in
          let last : n.store ≡ store_of k.cells k.released = sym c.into_parts-stack.ensures.store ∙ same_store _ _ _ _ (sym (c.sealed.ensures.cells ∙ c.reopen.ensures.cells)) (sym (c.sealed.ensures.released ∙ c.reopen.ensures.released)) in
          let laid : IsSafeTask (stand_of v p) (store_of i.cells.cells i.cells.released) = subst (λ (o : Option Paused). IfSome o (λ r. IsSafeTask (stand_of v r) (store_of i.cells.cells i.cells.released))) taken (when_safe i.is_safe _ c.self.invariant.safe (c.is_sure-is_safe.ensures.safe sure)) in
          let safe : IsSafeTask m.stack m.store = subst (λ (x : Store). IsSafeTask m.stack x) (sym first) (subst (λ (t : Stand). IsSafeTask t (store_of i.cells.cells i.cells.released)) (sym took) laid) in
          let left : IsSafeTask n.stack n.store = run_leaves m.stack n.stack m.store n.store c.args.calls c.drive-ended.result
          (subst (λ (t : Stand). IsSound (plain t.code.code)) (sym took) c.is_sure-is_safe.ensures.sound)
          (subst (λ (t : Stand). HasMachineInts (plain t.code.code)) (sym took) c.is_sure-is_safe.ensures.literals)
          c.drive-ended.ensures.code safe
          (λ kinds lent knows. c.drive-ended.ensures.run kinds lent knows going small empty) in
          let there : IsSafeTask s (store_of k.cells k.released) = subst (λ (t : Stand). IsSafeTask t (store_of k.cells k.released)) (sym c.into_parts-stack.ensures.stack) (subst (λ (x : Store). IsSafeTask n.stack x) last left) in
          subst (λ (t : Stand). IsSafeTask t (store_of k.cells k.released)) (sym stood) there);
    }

pub returns-in-Some-clause-runs : goal.returns-in-Some-clause-runs
returns-in-Some-clause-runs c =
    let i = c.self.inside in
    let v = i.verified in
    let p = c.in-Some.paused in
    let q = c.pause.result in
    let m = c.of-machine.result in
    let n = c.drive-ended.new.machine in
    let s = c.into_parts-stack.result.0 in
    let k = c.sealed.result in
    let calls = c.args.calls in
    let ended = c.drive-ended.result in
    let g = c.drive-ended.new.gauge in
    let old = c.args.self.now in
    let new : Seen = record { code = v; task = Some (stand_of v q); store = store_of k.cells k.released; left = k.left; gauge = g; entry = i.entry; is_open = i.is_open; kept = i.kept.items } in
    let taken : i.task ≡ Some p = sym c.take.ensures.value ∙ c.in-Some.is in
    let is_old : old.task ≡ Some (stand_of v p) = sym (ap (λ (x : Seen). x.task) c.self.view_is) ∙ ap (λ (o : Option Paused). option_map (stand_of v) o) taken in
    let took : m.stack ≡ stand_of v p = c.of-machine.ensures.stack ∙ c.resume.ensures.same in
    let code : s.code ≡ m.stack.code = ap (λ (t : Stand). t.code) c.into_parts-stack.ensures.stack ∙ c.drive-ended.ensures.code in
    let stood : stand_of v q ≡ s = stands v p q m.stack s took code c.pause.ensures.same in
    let first : m.store ≡ store_of i.cells.cells i.cells.released = c.of-machine.ensures.store ∙ ap (λ (x : Stored). store_of x.cells x.released) c.replace-cells.ensures.value in
    let store : m.store ≡ old.store = first ∙ ap (λ (x : Seen). x.store) c.self.view_is in
    let last : n.store ≡ new.store = sym c.into_parts-stack.ensures.store ∙ same_store _ _ _ _ (sym (c.sealed.ensures.cells ∙ c.reopen.ensures.cells)) (sym (c.sealed.ensures.released ∙ c.reopen.ensures.released)) in
    let empty : m.pushed ≡ [] = c.of-machine.ensures.pushed ∙ ap (λ (x : Stored). x.pushed) c.replace-cells.ensures.value ∙ c.self.invariant.empty in
    let small : IsSmall m.store.cells = subst (λ (x : Store). IsSmall x.cells) (sym first) c.self.invariant.small in
    let ran : Runs m.stack n.stack m.store n.store calls ended = λ kinds lent knows going. c.drive-ended.ensures.run kinds lent knows going small empty in
    let seen : Gauges m.stack m.store calls i.gauge g = λ unseen kinds lent knows fresh. c.drive-ended.ensures.gauge unseen kinds lent knows fresh small empty in
    let ran_on : Runs m.stack s old.store new.store calls ended = subst (λ (x : Store). Runs m.stack s x new.store calls ended) store (subst (λ (x : Store). Runs m.stack s m.store x calls ended) last (subst (λ (t : Stand). Runs m.stack t m.store n.store calls ended) (sym c.into_parts-stack.ensures.stack) ran)) in
    let seen_on : Gauges m.stack old.store calls old.gauge g = subst (λ (x : Gauge). Gauges m.stack old.store calls x g) (ap (λ (x : Seen). x.gauge) c.self.view_is) (subst (λ (x : Store). Gauges m.stack x calls i.gauge g) store seen) in
    has_run v p q m.stack s old new calls ended c.end_of_run.result is_old refl took stood c.end_of_run.ensures.is ran_on seen_on
