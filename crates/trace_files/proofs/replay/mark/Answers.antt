use Rattle.std.proofs.Common.{◌∙◌, ◌<◌, ◌≤◌, subst}
use Rattle.trace_files.specs.Plain.{plain_event}
use Rattle.trace_files.proofs.Reported.{marked_late, marked_here}
use Rattle.trace_files.proofs.replay.mark.Goals as goal

pub returns-then-step-step_of-clause-reported : goal.returns-then-step-step_of-clause-reported
returns-then-step-step_of-clause-reported c = λ rising k d o h s. marked_late (plain_event c.args.event.now) c.args.number c.args.step d.place c.args.last.now.items k o (subst (λ n. c.args.step < n) c.step_of.ensures.is c.if-step-step_of.true) s

pub returns-in-Some-clause-reported : goal.returns-in-Some-clause-reported
returns-in-Some-clause-reported c = λ rising. marked_here c.args.cells.now c.args.last.now.items (plain_event c.args.event.now) c.args.number c.args.step c.in-Some.cell c.in-Some.ensures.found.0 rising c.in-Some.ensures.found.1 (c.in-Some.ensures.found.2 ∙ c.place_of.ensures.is) (subst (λ n. n ≤ c.args.step) c.step_of.ensures.is c.if-step-step_of.false)
