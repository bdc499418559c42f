-- Where no call is next, a step enters no function; where one is, the run is out of calls.
use Rattle.std.proofs.Common.{◌∙◌, Bool, false, refl, sym, subst}
use Rattle.machine_cells.proofs.Counts.{counts_on}
use Rattle.machine_step.specs.declared.rows.Stepped.{Stepped}
use Rattle.fip_machine.specs.Along.{CameTo, calls_next, stored}
use Rattle.fip_machine.proofs.Alongs.{stepped, has_gone_on, has_ended_late, is_out}
use Rattle.fip_machine.proofs.stack.TaskStack.run_to_call.Goals as goal

pub loop-self-preserved : goal.loop-self-preserved
loop-self-preserved g c = record {
  code = c.step.ensures.code ∙ c.loop-self.invariant.code;
  small = λ h. c.step.ensures.small (c.loop-self.invariant.small h);
  empty = λ h. c.step.ensures.pushed (c.loop-self.invariant.empty h);
  counted = counts_on (g.C.Cells.cells c.args.cells.now) (g.C.Cells.cells c.loop-self.cells) (g.C.Cells.cells c.step.new.cells) (g.C.Cells.released c.args.cells.now) (g.C.Cells.released c.loop-self.cells) (g.C.Cells.released c.step.new.cells) c.args.self.now.freed c.loop-self.self.freed c.step.new.self.freed c.loop-self.invariant.counted c.step.ensures.counted;
  along = λ o a.
      let t = c.loop-self.self in
      let s = stored (g.C.Cells.cells c.loop-self.cells) (g.C.Cells.released c.loop-self.cells) (g.C.Cells.pushed c.loop-self.cells) in
      let w = stored (g.C.Cells.cells c.step.new.cells) (g.C.Cells.released c.step.new.cells) (g.C.Cells.pushed c.step.new.cells) in
      let at = c.loop-self.invariant.along o a in
      has_gone_on o 0 (calls_next t.code t) c.step.result c.step.new.self w c.in-Went.is (stepped o t s 0 c.step.result c.step.new.self w at c.step.ensures.code c.step.ensures.small c.step.ensures.pushed c.step.ensures.measured c.step.ensures.raised c.step.ensures.ends (λ known going small empty. c.step.ensures.next o.kinds known going small empty o.lent));
}

pub returns-in-Entered : goal.returns-in-Entered
returns-in-Entered g c = record {
  code = c.step.ensures.code ∙ c.loop-self.invariant.code;
  small = λ h. c.step.ensures.small (c.loop-self.invariant.small h);
  pushed = λ h. c.step.ensures.pushed (c.loop-self.invariant.empty h);
  counted = counts_on (g.C.Cells.cells c.args.cells.now) (g.C.Cells.cells c.loop-self.cells) (g.C.Cells.cells c.step.new.cells) (g.C.Cells.released c.args.cells.now) (g.C.Cells.released c.loop-self.cells) (g.C.Cells.released c.step.new.cells) c.args.self.now.freed c.loop-self.self.freed c.step.new.self.freed c.loop-self.invariant.counted c.step.ensures.counted;
  run = λ o a.
      let t = c.loop-self.self in
      let s = stored (g.C.Cells.cells c.loop-self.cells) (g.C.Cells.released c.loop-self.cells) (g.C.Cells.pushed c.loop-self.cells) in
      let w = stored (g.C.Cells.cells c.step.new.cells) (g.C.Cells.released c.step.new.cells) (g.C.Cells.pushed c.step.new.cells) in
      let at = c.loop-self.invariant.along o a in
      let came = stepped o t s 0 c.step.result c.step.new.self w at c.step.ensures.code c.step.ensures.small c.step.ensures.pushed c.step.ensures.measured c.step.ensures.raised c.step.ensures.ends (λ known going small empty. c.step.ensures.next o.kinds known going small empty o.lent) in
      let plain = sym (c.at_call.ensures.going at.going) ∙ c.loop-self-test.true in
      let late = subst (λ (call : Bool). CameTo o 0 call c.step.result c.step.new.self w) plain came in
      subst (λ (r : Stepped). CameTo o 0 false r c.step.new.self w) c.in-Entered.is late refl;
}

pub returns-in_default : goal.returns-in_default
returns-in_default g c = record {
  code = c.step.ensures.code ∙ c.loop-self.invariant.code;
  small = λ h. c.step.ensures.small (c.loop-self.invariant.small h);
  pushed = λ h. c.step.ensures.pushed (c.loop-self.invariant.empty h);
  counted = counts_on (g.C.Cells.cells c.args.cells.now) (g.C.Cells.cells c.loop-self.cells) (g.C.Cells.cells c.step.new.cells) (g.C.Cells.released c.args.cells.now) (g.C.Cells.released c.loop-self.cells) (g.C.Cells.released c.step.new.cells) c.args.self.now.freed c.loop-self.self.freed c.step.new.self.freed c.loop-self.invariant.counted c.step.ensures.counted;
  run = λ o a.
      let t = c.loop-self.self in
      let s = stored (g.C.Cells.cells c.loop-self.cells) (g.C.Cells.released c.loop-self.cells) (g.C.Cells.pushed c.loop-self.cells) in
      let w = stored (g.C.Cells.cells c.step.new.cells) (g.C.Cells.released c.step.new.cells) (g.C.Cells.pushed c.step.new.cells) in
      let at = c.loop-self.invariant.along o a in
      let came = stepped o t s 0 c.step.result c.step.new.self w at c.step.ensures.code c.step.ensures.small c.step.ensures.pushed c.step.ensures.measured c.step.ensures.raised c.step.ensures.ends (λ known going small empty. c.step.ensures.next o.kinds known going small empty o.lent) in
      let plain = sym (c.at_call.ensures.going at.going) ∙ c.loop-self-test.true in
      let late = subst (λ (call : Bool). CameTo o 0 call c.step.result c.step.new.self w) plain came in
      has_ended_late o c.step.result c.step.new.self w c.in_default.not-Went late;
}

pub returns : goal.returns
returns g c = record {
  code = c.loop-self.invariant.code;
  small = c.loop-self.invariant.small;
  pushed = c.loop-self.invariant.empty;
  counted = c.loop-self.invariant.counted;
  run = λ o a.
      let t = c.loop-self.self in
      let s = stored (g.C.Cells.cells c.loop-self.cells) (g.C.Cells.released c.loop-self.cells) (g.C.Cells.pushed c.loop-self.cells) in
      let at = c.loop-self.invariant.along o a in
      is_out o t s at (sym (c.at_call.ensures.going at.going) ∙ c.loop-self-test.false);
}
