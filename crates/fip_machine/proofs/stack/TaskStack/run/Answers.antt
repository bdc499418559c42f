-- Between bursts the words reach further; the task stays where it is.
use Rattle.std.proofs.Common.{◌≡◌, ◌≤◌, ◌∙◌, ℕ, List, Some, rules, sym, subst, arith, length, refl}
use Rattle.std.specs.Vec.{with_items}
use Rattle.std.proofs.lemmas.List.{with_items_is}
use Rattle.machine_cells.proofs.Counts.{counts_on}
use Rattle.machine_step.specs.Placed.{IsPlaced, Waiting}
use Rattle.machine_step.proofs.Stacked.{keeps_less, waiting_keeps}
use Rattle.fip_machine.specs.Tasks.{Stand}
use Rattle.fip_machine.specs.Along.{IsAlong, HasRun, task_of, stored, end_after}
use Rattle.fip_machine.proofs.Alongs.{task_same}
use Rattle.fip_machine.proofs.Bursts.{paused_along, run_ended, along_ended}
use Rattle.fip_machine.proofs.stack.TaskStack.run.Goals as goal

pub burst-pause-requires-clause-waiting : goal.burst-pause-requires-clause-waiting
burst-pause-requires-clause-waiting g c =
    let i = c.loop-left.self-inside in
    let room = c.loop-left.invariant.task.placed.room in
    let base : i.cursor.base ≤ length i.words.items = omega (arith, room) in
    subst (λ ws. Waiting i.verified.now i.bounds ws i.cursor.frames i.cursor.base) (sym c.as_mut_slice.ensures.value)
    (waiting_keeps i.verified.now i.bounds i.words.items c.make_room.new.words.items i.cursor.frames i.cursor.base (keeps_less (length i.words.items) i.cursor.base i.words.items c.make_room.new.words.items base c.make_room.ensures.keeps) c.loop-left.invariant.task.waiting)

pub loop-left-preserved : goal.loop-left-preserved
loop-left-preserved g c =
    let i = c.loop-left.self-inside in
    let inv = c.loop-left.invariant in
    let v = i.verified.now in
    let b = i.bounds in
    let us = c.burst-pause.new.words in
    let after = c.burst-pause.new.cursor in
    let beside = c.burst-pause.new.beside in
    let reported = c.burst-pause.ensures in
    let all = with_items c.make_room.new.words us in
    let items : all.items ≡ us = with_items_is c.make_room.new.words us (search rules) in
    let s = stored (g.C.Cells.cells c.loop-left.cells) (g.C.Cells.released c.loop-left.cells) (g.C.Cells.pushed c.loop-left.cells) in
    let w = stored (g.C.Cells.cells c.burst-pause.new.cells) (g.C.Cells.released c.burst-pause.new.cells) (g.C.Cells.pushed c.burst-pause.new.cells) in
    record {
      task = record {
        placed = subst (λ (xs : List ℕ). IsPlaced v b (length xs) after) (sym items) reported.placed;
        waiting = subst (λ (xs : List ℕ). Waiting v b xs after.frames after.base) (sym items) reported.waiting;
        most = inv.task.most;
        small = inv.task.small;
        beside = subst (λ n. b.largest ≤ n) (sym reported.spare) inv.task.beside;
        taken = (let t = inv.task.taken in let m = c.make_room.ensures.taken in omega (arith, t, m));
        high = reported.high;
        over = inv.task.over;
      };
      going = inv.going;
      code = inv.code;
      small = λ h. reported.small (inv.small h);
      empty = λ h. reported.pushed (inv.empty h);
      counted = λ e. counts_on (g.C.Cells.cells c.args.cells.now) (g.C.Cells.cells c.loop-left.cells) (g.C.Cells.cells c.burst-pause.new.cells) (g.C.Cells.released c.args.cells.now) (g.C.Cells.released c.loop-left.cells) (g.C.Cells.released c.burst-pause.new.cells) c.args.self.now.freed i.beside.freed beside.freed (inv.counted e) (reported.counted e);
      along = λ o a.
          let before : IsAlong o (task_of v b c.as_mut_slice.result.now i.cursor i.beside) s c.loop-left.left = subst (λ (t : Stand). IsAlong o t s c.loop-left.left) (sym (task_same v b i.words.items c.make_room.new.words.items i.cursor i.beside inv.task.placed.room c.make_room.ensures.more c.make_room.ensures.keeps) ∙ sym (λ j. task_of v b (c.as_mut_slice.ensures.value j) i.cursor i.beside)) (inv.along o a) in
          subst (λ (xs : List ℕ). IsAlong o (task_of v b xs after beside) w c.burst-pause.new.left) (sym items) (paused_along o c.burst-pause.result (task_of v b us after beside) w c.burst-pause.new.left c.in_default.not-Over (reported.along o before));
    }

pub returns-in-Over : goal.returns-in-Over
returns-in-Over g c =
    let i = c.loop-left.self-inside in
    let inv = c.loop-left.invariant in
    let v = i.verified.now in
    let b = i.bounds in
    let us = c.burst-pause.new.words in
    let after = c.burst-pause.new.cursor in
    let beside = c.burst-pause.new.beside in
    let all = with_items c.make_room.new.words us in
    let items : all.items ≡ us = with_items_is c.make_room.new.words us (search rules) in
    let s = stored (g.C.Cells.cells c.loop-left.cells) (g.C.Cells.released c.loop-left.cells) (g.C.Cells.pushed c.loop-left.cells) in
    let w = stored (g.C.Cells.cells c.burst-pause.new.cells) (g.C.Cells.released c.burst-pause.new.cells) (g.C.Cells.pushed c.burst-pause.new.cells) in
    let reported = c.burst-pause.ensures in
    record {
      code = inv.code;
      small = λ h. reported.small (inv.small h);
      pushed = λ h. reported.pushed (inv.empty h);
      counted = λ e. counts_on (g.C.Cells.cells c.args.cells.now) (g.C.Cells.cells c.loop-left.cells) (g.C.Cells.cells c.burst-pause.new.cells) (g.C.Cells.released c.args.cells.now) (g.C.Cells.released c.loop-left.cells) (g.C.Cells.released c.burst-pause.new.cells) c.args.self.now.freed i.beside.freed beside.freed (inv.counted e) (reported.counted e);
      run = λ o a.
          let before : IsAlong o (task_of v b c.as_mut_slice.result.now i.cursor i.beside) s c.loop-left.left = subst (λ (t : Stand). IsAlong o t s c.loop-left.left) (sym (task_same v b i.words.items c.make_room.new.words.items i.cursor i.beside inv.task.placed.room c.make_room.ensures.more c.make_room.ensures.keeps) ∙ sym (λ j. task_of v b (c.as_mut_slice.ensures.value j) i.cursor i.beside)) (inv.along o a) in
          let e = end_after (Some c.in-Over.stepped) in
          run_ended o e (task_of v b all.items after beside) (Some c.in-Over.stepped) w (subst (λ (xs : List ℕ). HasRun o e (task_of v b xs after beside) w) (sym items) (c.in-Over.ensures.along o before));
    }

pub returns : goal.returns
returns g c =
    let i = c.loop-left.self-inside in
    let inv = c.loop-left.invariant in
    let task = task_of i.verified.now i.bounds i.words.items i.cursor i.beside in
    let s = stored (g.C.Cells.cells c.loop-left.cells) (g.C.Cells.released c.loop-left.cells) (g.C.Cells.pushed c.loop-left.cells) in
    let over = c.loop-left-test.false in
    let none : c.loop-left.left ≡ 0 = omega (arith, over) in
    record {
      code = c.run_to_call.ensures.code ∙ inv.code;
      small = λ h. c.run_to_call.ensures.small (inv.small h);
      pushed = λ h. c.run_to_call.ensures.pushed (inv.empty h);
      counted = λ e. counts_on (g.C.Cells.cells c.args.cells.now) (g.C.Cells.cells c.loop-left.cells) (g.C.Cells.cells c.run_to_call.new.cells) (g.C.Cells.released c.args.cells.now) (g.C.Cells.released c.loop-left.cells) (g.C.Cells.released c.run_to_call.new.cells) c.args.self.now.freed i.beside.freed c.run_to_call.new.self.freed (inv.counted e) c.run_to_call.ensures.counted;
      run = λ o a. c.run_to_call.ensures.run o (along_ended o task i.ended s 0 inv.going refl (subst (λ (n : ℕ). IsAlong o task s n) none (inv.along o a)));
    }

pub burst-pause-requires-clause-sure : goal.burst-pause-requires-clause-sure
burst-pause-requires-clause-sure g c sure =
    let i = c.loop-left.self-inside in
    let inv = c.loop-left.invariant in
    let v = i.verified.now in
    let b = i.bounds in
    let s = stored (g.C.Cells.cells c.loop-left.cells) (g.C.Cells.released c.loop-left.cells) (g.C.Cells.pushed c.loop-left.cells) in
    let safe = c.requires.sure sure in
    record {
      origin = safe.origin;
      never = safe.never;
      along = subst (λ (t : Stand). IsAlong safe.origin t s c.loop-left.left) (sym (task_same v b i.words.items c.make_room.new.words.items i.cursor i.beside inv.task.placed.room c.make_room.ensures.more c.make_room.ensures.keeps) ∙ sym (λ j. task_of v b (c.as_mut_slice.ensures.value j) i.cursor i.beside)) (inv.along safe.origin safe.along);
    }
