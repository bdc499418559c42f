-- Where no call is next, a step enters no function; where one is, the run is out of calls.
use Rattle.std.proofs.Common.{◌∙◌, Bool, false, refl, sym, subst}
use Rattle.machine_step.specs.declared.rows.Stepped.{Stepped}
use Rattle.fip_machine.specs.Along.{calls_next}
use Rattle.fip_machine.specs.Taped.{CameTaped, HasTape}
use Rattle.fip_machine.proofs.Alongs.{went_with_more, ended_late_with, out_with, not_on, not_off}
use Rattle.fip_machine.proofs.traced.run_to_call.Goals as goal

pub loop-stack-preserved : goal.loop-stack-preserved
loop-stack-preserved c = record {
  along = λ o limit a. went_with_more (HasTape o limit c.step.new.recorder.tape) o 0 (calls_next c.loop-stack.stack.code c.loop-stack.stack) c.step.result c.step.new.stack c.step.new.recorder.store c.in-Went.is (c.step.ensures.came o limit 0 (c.loop-stack.invariant.along o limit a));
}

pub returns-in-Entered : goal.returns-in-Entered
returns-in-Entered c = record {
  run = λ o limit a.
      let t = c.loop-stack.stack in
      let at = c.loop-stack.invariant.along o limit a in
      let plain = not_on (calls_next t.code t) (sym c.loop-stack-test.true ∙ c.has_no_call.ensures.is at.along.going) in
      let came = subst (λ (call : Bool). CameTaped o limit 0 call c.step.result c.step.new.stack c.step.new.recorder) plain (c.step.ensures.came o limit 0 at) in
      subst (λ (r : Stepped). CameTaped o limit 0 false r c.step.new.stack c.step.new.recorder) c.in-Entered.is came refl;
}

pub returns-in_default : goal.returns-in_default
returns-in_default c = record {
  run = λ o limit a.
      let t = c.loop-stack.stack in
      let at = c.loop-stack.invariant.along o limit a in
      let plain = not_on (calls_next t.code t) (sym c.loop-stack-test.true ∙ c.has_no_call.ensures.is at.along.going) in
      let came = subst (λ (call : Bool). CameTaped o limit 0 call c.step.result c.step.new.stack c.step.new.recorder) plain (c.step.ensures.came o limit 0 at) in
      ended_late_with (HasTape o limit c.step.new.recorder.tape) o c.step.result c.step.new.stack c.step.new.recorder.store c.in_default.not-Went came;
}

pub returns : goal.returns
returns c = record {
  run = λ o limit a.
      let t = c.loop-stack.stack in
      let at = c.loop-stack.invariant.along o limit a in
      out_with (HasTape o limit c.loop-stack.recorder.tape) o t c.loop-stack.recorder.store at (not_off (calls_next t.code t) (sym c.loop-stack-test.false ∙ c.has_no_call.ensures.is at.along.going));
}
