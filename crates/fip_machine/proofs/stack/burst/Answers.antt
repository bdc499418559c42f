-- A turn leads from a moment of the run to the next one, or to its end.
use Rattle.std.proofs.Common.{◌∙◌, rules, arith}
use Rattle.machine_step.proofs.Highs.{high_raised}
use Rattle.machine_cells.proofs.Counts.{counts_on}
use Rattle.fip_machine.specs.Along.{stored}
use Rattle.fip_machine.proofs.Bursts.{turned_task, turned_on, turned_in, turned_out}
use Rattle.fip_machine.proofs.Sures.{is_sure}
use Rattle.fip_machine.proofs.stack.burst.Goals as goal

pub steps-preserved-in-Went : goal.steps-preserved-in-Went
steps-preserved-in-Went g c =
    let s = stored (g.C.Cells.cells c.steps.cells) (g.C.Cells.released c.steps.cells) (g.C.Cells.pushed c.steps.cells) in
    let w = stored (g.C.Cells.cells c.advance.new.cells) (g.C.Cells.released c.advance.new.cells) (g.C.Cells.pushed c.advance.new.cells) in
    let v = c.args.verified.now in
    let b = c.args.bounds in
    let reported = c.advance.ensures in
    let inv = c.steps.invariant in
    record {
      placed = reported.placed;
      roomy = c.in-Went.ensures.roomy (λ e. cc);
      waiting = reported.waiting;
      spare = reported.spare ∙ inv.spare;
      some = inv.some;
      fewer = inv.fewer;
      high = high_raised c.steps.here c.advance.new.cursor (reported.raised inv.high);
      small = λ h. reported.small (inv.small h);
      empty = λ h. reported.pushed (inv.empty h);
      counted = λ e. counts_on (g.C.Cells.cells c.args.cells.now) (g.C.Cells.cells c.steps.cells) (g.C.Cells.cells c.advance.new.cells) (g.C.Cells.released c.args.cells.now) (g.C.Cells.released c.steps.cells) (g.C.Cells.released c.advance.new.cells) c.args.beside.now.freed c.steps.beside.freed c.advance.new.beside.freed (inv.counted e) (reported.counted e);
      along = λ o a. turned_on o v b c.steps.words c.advance.new.words c.steps.here c.advance.new.cursor c.steps.beside c.advance.new.beside s w c.steps.calls c.advance.result c.in-Went.is (turned_task o v b c.steps.words c.advance.new.words c.steps.here c.advance.new.cursor c.steps.beside c.advance.new.beside s w c.steps.calls c.advance.result (inv.along o a) reported.placed.room reported.waiting inv.high reported.raised reported.small reported.pushed reported.more);
    }

pub steps-preserved : goal.steps-preserved
steps-preserved g c =
    let s = stored (g.C.Cells.cells c.steps.cells) (g.C.Cells.released c.steps.cells) (g.C.Cells.pushed c.steps.cells) in
    let w = stored (g.C.Cells.cells c.advance.new.cells) (g.C.Cells.released c.advance.new.cells) (g.C.Cells.pushed c.advance.new.cells) in
    let v = c.args.verified.now in
    let b = c.args.bounds in
    let reported = c.advance.ensures in
    let inv = c.steps.invariant in
    record {
      placed = reported.placed;
      roomy = search rules;
      waiting = reported.waiting;
      spare = reported.spare ∙ inv.spare;
      some = (let n = c.if-calls-eq0.false in omega (arith, n));
      fewer = (let f = inv.fewer in omega (arith, f));
      high = high_raised c.steps.here c.advance.new.cursor (reported.raised inv.high);
      small = λ h. reported.small (inv.small h);
      empty = λ h. reported.pushed (inv.empty h);
      counted = λ e. counts_on (g.C.Cells.cells c.args.cells.now) (g.C.Cells.cells c.steps.cells) (g.C.Cells.cells c.advance.new.cells) (g.C.Cells.released c.args.cells.now) (g.C.Cells.released c.steps.cells) (g.C.Cells.released c.advance.new.cells) c.args.beside.now.freed c.steps.beside.freed c.advance.new.beside.freed (inv.counted e) (reported.counted e);
      along = λ o a. turned_in o v b c.steps.words c.advance.new.words c.steps.here c.advance.new.cursor c.steps.beside c.advance.new.beside s w c.steps.calls c.advance.result c.in-Entered.is inv.some (turned_task o v b c.steps.words c.advance.new.words c.steps.here c.advance.new.cursor c.steps.beside c.advance.new.beside s w c.steps.calls c.advance.result (inv.along o a) reported.placed.room reported.waiting inv.high reported.raised reported.small reported.pushed reported.more);
    }

pub returns-then-calls-eq0-clause-along : goal.returns-then-calls-eq0-clause-along
returns-then-calls-eq0-clause-along g c o a =
    let s = stored (g.C.Cells.cells c.steps.cells) (g.C.Cells.released c.steps.cells) (g.C.Cells.pushed c.steps.cells) in
    let w = stored (g.C.Cells.cells c.advance.new.cells) (g.C.Cells.released c.advance.new.cells) (g.C.Cells.pushed c.advance.new.cells) in
    let v = c.args.verified.now in
    let b = c.args.bounds in
    let reported = c.advance.ensures in
    let inv = c.steps.invariant in
    turned_in o v b c.steps.words c.advance.new.words c.steps.here c.advance.new.cursor c.steps.beside c.advance.new.beside s w c.steps.calls c.advance.result c.in-Entered.is inv.some (turned_task o v b c.steps.words c.advance.new.words c.steps.here c.advance.new.cursor c.steps.beside c.advance.new.beside s w c.steps.calls c.advance.result (inv.along o a) reported.placed.room reported.waiting inv.high reported.raised reported.small reported.pushed reported.more)

pub returns-then-here-stop-clause-along : goal.returns-then-here-stop-clause-along
returns-then-here-stop-clause-along g c o a =
    let s = stored (g.C.Cells.cells c.steps.cells) (g.C.Cells.released c.steps.cells) (g.C.Cells.pushed c.steps.cells) in
    let w = stored (g.C.Cells.cells c.advance.new.cells) (g.C.Cells.released c.advance.new.cells) (g.C.Cells.pushed c.advance.new.cells) in
    let v = c.args.verified.now in
    let b = c.args.bounds in
    let reported = c.advance.ensures in
    let inv = c.steps.invariant in
    turned_in o v b c.steps.words c.advance.new.words c.steps.here c.advance.new.cursor c.steps.beside c.advance.new.beside s w c.steps.calls c.advance.result c.in-Entered.is inv.some (turned_task o v b c.steps.words c.advance.new.words c.steps.here c.advance.new.cursor c.steps.beside c.advance.new.beside s w c.steps.calls c.advance.result (inv.along o a) reported.placed.room reported.waiting inv.high reported.raised reported.small reported.pushed reported.more)

pub returns-in_default : goal.returns-in_default
returns-in_default g c =
    let s = stored (g.C.Cells.cells c.steps.cells) (g.C.Cells.released c.steps.cells) (g.C.Cells.pushed c.steps.cells) in
    let w = stored (g.C.Cells.cells c.advance.new.cells) (g.C.Cells.released c.advance.new.cells) (g.C.Cells.pushed c.advance.new.cells) in
    let v = c.args.verified.now in
    let b = c.args.bounds in
    let reported = c.advance.ensures in
    let inv = c.steps.invariant in
    record {
      placed = reported.placed;
      waiting = reported.waiting;
      spare = reported.spare ∙ inv.spare;
      high = high_raised c.steps.here c.advance.new.cursor (reported.raised inv.high);
      short = search rules;
      spent = search rules;
      over = search rules;
      small = λ h. reported.small (inv.small h);
      pushed = λ h. reported.pushed (inv.empty h);
      counted = λ e. counts_on (g.C.Cells.cells c.args.cells.now) (g.C.Cells.cells c.steps.cells) (g.C.Cells.cells c.advance.new.cells) (g.C.Cells.released c.args.cells.now) (g.C.Cells.released c.steps.cells) (g.C.Cells.released c.advance.new.cells) c.args.beside.now.freed c.steps.beside.freed c.advance.new.beside.freed (inv.counted e) (reported.counted e);
      along = λ o a. turned_out o v b c.steps.words c.advance.new.words c.steps.here c.advance.new.cursor c.steps.beside c.advance.new.beside s w c.steps.calls c.advance.result c.in_default.not-Went c.in_default.not-Entered inv.some (turned_task o v b c.steps.words c.advance.new.words c.steps.here c.advance.new.cursor c.steps.beside c.advance.new.beside s w c.steps.calls c.advance.result (inv.along o a) reported.placed.room reported.waiting inv.high reported.raised reported.small reported.pushed reported.more);
    }

-- at each moment of the run
pub advance-requires-clause-sure : goal.advance-requires-clause-sure
advance-requires-clause-sure g c sure =
    let s = stored (g.C.Cells.cells c.steps.cells) (g.C.Cells.released c.steps.cells) (g.C.Cells.pushed c.steps.cells) in
    let safe = c.requires.sure sure in
    is_sure safe.origin c.args.verified.now c.args.bounds c.steps.words c.steps.here c.steps.beside s c.steps.calls safe.never (c.steps.invariant.along safe.origin safe.along)

pub returns-then-calls-eq0-clause-counted : goal.returns-then-calls-eq0-clause-counted
returns-then-calls-eq0-clause-counted g c e =
    let inv = c.steps.invariant in
    let reported = c.advance.ensures in
    counts_on (g.C.Cells.cells c.args.cells.now) (g.C.Cells.cells c.steps.cells) (g.C.Cells.cells c.advance.new.cells) (g.C.Cells.released c.args.cells.now) (g.C.Cells.released c.steps.cells) (g.C.Cells.released c.advance.new.cells) c.args.beside.now.freed c.steps.beside.freed c.advance.new.beside.freed (inv.counted e) (reported.counted e)

pub returns-then-here-stop-clause-counted : goal.returns-then-here-stop-clause-counted
returns-then-here-stop-clause-counted g c e =
    let inv = c.steps.invariant in
    let reported = c.advance.ensures in
    counts_on (g.C.Cells.cells c.args.cells.now) (g.C.Cells.cells c.steps.cells) (g.C.Cells.cells c.advance.new.cells) (g.C.Cells.released c.args.cells.now) (g.C.Cells.released c.steps.cells) (g.C.Cells.released c.advance.new.cells) c.args.beside.now.freed c.steps.beside.freed c.advance.new.beside.freed (inv.counted e) (reported.counted e)
