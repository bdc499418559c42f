use Rattle.std.proofs.Common.{◌≤◌, map, subst}
use Rattle.trace_files.specs.Plain.{plain_event}
use Rattle.trace_files.proofs.Steps.{steps_got}
use Rattle.trace_files.proofs.read.read_steps.Goals as goal

pub returns : goal.returns
returns c = record {
  reads = λ cells. steps_got cells (map plain_event c.args.events.now) c.in_ok-steps.steps c.args.reader.now c.u64.new.self c.at-at.result c.at-at.ensures.at c.in_ok-steps.ensures.reads (subst (λ k. k ≤ c.in_ok-steps.steps) c.last_step.ensures.is c.if-steps-last_step.false) c.in_ok-end.ensures.reads;
}
