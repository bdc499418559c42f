use Rattle.std.proofs.Common.{◌∙◌, sym}
use Rattle.trace_files.proofs.Lasts.{last_is, last_none}
use Rattle.trace_files.proofs.read.last_step.Goals as goal

pub returns-in-None : goal.returns-in-None
returns-in-None c = record { is = sym (last_none c.args.events.now (sym c.in-None.ensures.value)) }

pub returns-in-Some : goal.returns-in-Some
returns-in-Some c = record { is = c.step_of.ensures.is ∙ sym (last_is c.args.events.now c.in-Some.event.now (sym c.in-Some.ensures.value)) }
