-- Each way that a step may come out leads where the written run stands one step later.
use Rattle.std.proofs.Common.{◌≡◌, ◌-◌, ◌<◌, false, Some, None, refl, sym, ap, subst, arith}
use Rattle.fip_machine.specs.machine_step.declared.rows.Stepped.{Stepped}
use Rattle.fip_machine.specs.declared.machine.Ended.{Ended}
use Rattle.fip_machine.specs.Along.{calls_next}
use Rattle.fip_tasks.specs.Turns.{Standing}
use Rattle.fip_tasks.specs.Landing.{standing}
use Rattle.fip_tasks.proofs.Landings.{Fits, step_lands, not_some, entered_fits, spent_fits}
use Rattle.fip_tasks.proofs.task.Task.advance.Goals.{else-self-eq0-via-then-self-eq0+else-at_call, else-self-eq0-via-else-self-eq0, in-Entered-2, in-Value, in-Trap, in-Deep}
use Rattle.fip_tasks.proofs.task.Task.advance.Goals as goal

pub returns-in-Went-clause-lands : goal.returns-in-Went-clause-lands
returns-in-Went-clause-lands c =
    let old : Standing = standing c.args.self.now in
    let on : old.ended ≡ None = not_some old.ended c.in_default.not-Some in
    let none : old.stack.ended ≡ None → old.left ≡ 0 → calls_next old.stack.code old.stack ≡ false = λ e z. elim c.else-self-eq0.branch [
      | else-self-eq0-via-then-self-eq0+else-at_call w ↦ (let f = w.if-at_call.false in let g = w.at_call.ensures.going e in cc)
      | else-self-eq0-via-else-self-eq0 w ↦ absurd (let f = w.if-self-eq0.false in omega (arith, f, z))
    ] in
    let t = c.step-stepped.ensures in
    let new : Standing = record { stack = c.step-stepped.new.self; left = old.left; started = old.started; ended = old.ended } in
    let fits : Fits c.step-stepped.result old.left new = subst (λ (q : Stepped). Fits q old.left new) (sym c.in-Went.is) (on, refl) in
    step_lands old new c.args.cells.now c.step-stepped.new.cells c.step-stepped.result on none t.code t.small t.pushed t.ends fits t.next t.measured t.raised (record { started = refl; counted = t.counted })

pub returns-in-Entered-clause-lands : goal.returns-in-Entered-clause-lands
returns-in-Entered-clause-lands c =
    let old : Standing = standing c.args.self.now in
    let on : old.ended ≡ None = not_some old.ended c.in_default.not-Some in
    let none : old.stack.ended ≡ None → old.left ≡ 0 → calls_next old.stack.code old.stack ≡ false = λ e z. elim c.else-self-eq0.branch [
      | else-self-eq0-via-then-self-eq0+else-at_call w ↦ (let f = w.if-at_call.false in let g = w.at_call.ensures.going e in cc)
      | else-self-eq0-via-else-self-eq0 w ↦ absurd (let f = w.if-self-eq0.false in omega (arith, f, z))
    ] in
    let t = c.step-stepped.ensures in
    let new : Standing = record { stack = c.step-stepped.new.self; left = old.left - 1; started = old.started; ended = old.ended } in
    let some : 0 < old.left = c.if-self-gt0.true in
    let fits : Fits c.step-stepped.result old.left new = subst (λ (q : Stepped). Fits q old.left new) (sym c.in-Entered.is) (entered_fits old.left new some on refl) in
    step_lands old new c.args.cells.now c.step-stepped.new.cells c.step-stepped.result on none t.code t.small t.pushed t.ends fits t.next t.measured t.raised (record { started = refl; counted = t.counted })

pub returns-clause-lands : goal.returns-clause-lands
returns-clause-lands c =
    let old : Standing = standing c.args.self.now in
    let on : old.ended ≡ None = not_some old.ended c.in_default.not-Some in
    let none : old.stack.ended ≡ None → old.left ≡ 0 → calls_next old.stack.code old.stack ≡ false = λ e z. elim c.else-self-eq0.branch [
      | else-self-eq0-via-then-self-eq0+else-at_call w ↦ (let f = w.if-at_call.false in let g = w.at_call.ensures.going e in cc)
      | else-self-eq0-via-else-self-eq0 w ↦ absurd (let f = w.if-self-eq0.false in omega (arith, f, z))
    ] in
    let t = c.step-stepped.ensures in
    let new : Standing = record { stack = c.step-stepped.new.self; left = old.left; started = old.started; ended = Some c.match-stepped.ended } in
    let fits : Fits c.step-stepped.result old.left new = elim c.match-stepped.branch [
      | in-Entered-2 w ↦ subst (λ (q : Stepped). Fits q old.left new) (sym w.in-Entered-2.is) (spent_fits old.left new (let f = w.if-self-gt0.false in omega (arith, f)))
      | in-Value w ↦ subst (λ (q : Stepped). Fits q old.left new) (sym w.in-Value.is) (ap (λ (e : Ended). Some e) w.ended-is)
      | in-Trap w ↦ subst (λ (q : Stepped). Fits q old.left new) (sym w.in-Trap.is) (ap (λ (e : Ended). Some e) w.ended-is)
      | in-Deep w ↦ subst (λ (q : Stepped). Fits q old.left new) (sym w.in-Deep.is) (ap (λ (e : Ended). Some e) w.ended-is)
    ] in
    step_lands old new c.args.cells.now c.step-stepped.new.cells c.step-stepped.result on none t.code t.small t.pushed t.ends fits t.next t.measured t.raised (record { started = refl; counted = t.counted })
