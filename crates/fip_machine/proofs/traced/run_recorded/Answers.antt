use Rattle.std.proofs.Common.{◌≡◌, ℕ, sym, subst, arith}
use Rattle.fip_machine.specs.declared.machine.Ended.{Ended}
use Rattle.fip_machine.specs.Taped.{AlongTaped, RunTaped, HasTape}
use Rattle.fip_machine.proofs.Alongs.{ready_along_with}
use Rattle.fip_machine.proofs.Tapings.{first_tape, ready_out_taped}
use Rattle.fip_machine.proofs.traced.run_recorded.Goals as goal

pub returns-then-calls-eq0 : goal.returns-then-calls-eq0
returns-then-calls-eq0 c = record { run = λ o limit r t. ready_out_taped o limit c.args.stack.now c.args.recorder.now.store c.args.recorder.now.tape c.args.calls c.if-calls-eq0.true r }

pub loop-left-init : goal.loop-left-init
loop-left-init c = record { along = λ o limit r t. ready_along_with (HasTape o limit c.args.recorder.now.tape) o c.args.stack.now c.args.recorder.now.store c.args.calls c.if-calls-eq0.false r (first_tape o limit c.args.recorder.now.tape t) }

pub loop-left-preserved : goal.loop-left-preserved
loop-left-preserved c = record { along = λ o limit r t. c.in-None.ensures.entered o limit c.loop-left.left c.loop-left-test.true (c.loop-left.invariant.along o limit r t) }

pub returns-in-Some : goal.returns-in-Some
returns-in-Some c = record { run = λ o limit r t. subst (λ (e : Ended). RunTaped o limit e c.run_to_entry.new.stack c.run_to_entry.new.recorder) (sym c.ended_of.ensures.is) (c.in-Some.ensures.over o limit c.loop-left.left c.loop-left-test.true (c.loop-left.invariant.along o limit r t)) }

pub returns : goal.returns
returns c = record {
  run = λ o limit r t.
      let over = c.loop-left-test.false in
      let none : c.loop-left.left ≡ 0 = omega (arith, over) in
      subst (λ (e : Ended). RunTaped o limit e c.run_to_call.new.stack c.run_to_call.new.recorder) (sym c.ended_of-2.ensures.is) (c.run_to_call.ensures.run o limit (subst (λ (n : ℕ). AlongTaped o limit c.loop-left.stack c.loop-left.recorder n) none (c.loop-left.invariant.along o limit r t)));
}
