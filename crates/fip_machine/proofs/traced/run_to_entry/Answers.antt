use Rattle.fip_machine.specs.Along.{calls_next}
use Rattle.fip_machine.specs.Taped.{HasTape}
use Rattle.fip_machine.proofs.Alongs.{went_with_more, entered_with_more, ended_with_more}
use Rattle.fip_machine.proofs.traced.run_to_entry.Goals as goal

pub loop-over-preserved : goal.loop-over-preserved
loop-over-preserved c = record {
  along = λ o limit left a. went_with_more (HasTape o limit c.step.new.recorder.tape) o left (calls_next c.loop-over.stack.code c.loop-over.stack) c.step.result c.step.new.stack c.step.new.recorder.store c.in-Went.is (c.step.ensures.came o limit left (c.loop-over.invariant.along o limit left a));
}

pub returns-in-Entered : goal.returns-in-Entered
returns-in-Entered c = record {
  entered = λ o limit left some a. entered_with_more (HasTape o limit c.step.new.recorder.tape) o left (calls_next c.loop-over.stack.code c.loop-over.stack) c.step.result c.step.new.stack c.step.new.recorder.store c.in-Entered.is some (c.step.ensures.came o limit left (c.loop-over.invariant.along o limit left a));
  over = tt;
}

pub returns-in_default : goal.returns-in_default
returns-in_default c = record {
  entered = tt;
  over = λ o limit left some a. ended_with_more (HasTape o limit c.step.new.recorder.tape) o left (calls_next c.loop-over.stack.code c.loop-over.stack) c.step.result c.step.new.stack c.step.new.recorder.store c.in_default.not-Went c.in_default.not-Entered some (c.step.ensures.came o limit left (c.loop-over.invariant.along o limit left a));
}
