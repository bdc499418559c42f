-- A task that has ended stays; another one's run is that of its frames.
use Rattle.std.proofs.Common.{Some, refl, sym, subst}
use Rattle.fip_machine.specs.declared.machine.Ended.{Ended}
use Rattle.fip_tasks.specs.Landing.{standing}
use Rattle.fip_tasks.specs.Turns.{Standing}
use Rattle.fip_tasks.proofs.Finishing.{Ran, goes_over}
use Rattle.fip_tasks.proofs.Landings.{goes_none, not_some}
use Rattle.fip_tasks.proofs.task.Task.finish.Goals as goal

pub returns-in-Some-clause-goes : goal.returns-in-Some-clause-goes
returns-in-Some-clause-goes c = goes_none (standing c.args.self.now) c.args.cells.now

pub returns-clause-goes : goal.returns-clause-goes
returns-clause-goes c =
    let old : Standing = standing c.args.self.now in
    let ran = c.run-over.ensures in
    let e : Ended = c.ended_of-ended.result in
    let new : Standing = record { stack = c.run-over.new.self; left = old.left; started = old.started; ended = Some e } in
    let before = c.args.cells.now in
    let following = c.run-over.new.cells in
    let to_end : Ran old before e new following = subst (λ (x : Ended). Ran old before x new following) (sym c.ended_of-ended.ensures.is) ran.run in
    goes_over old new before following e (not_some old.ended c.in_default.not-Some) c.frames-frames.ensures.measured refl ran.small ran.pushed (record { started = refl; counted = ran.counted refl }) to_end
