use Rattle.std.proofs.Common.{◌∙◌, Some, ap}
use Rattle.fip_host.proofs.calls.codes.hand_out.Goals as goal

pub returns-in-Ok-clause-machine : goal.returns-in-Ok-clause-machine
returns-in-Ok-clause-machine c _ = record {
  machine = c.of.result;
  is = c.of-in-Ok.ensures ∙ ap Some c.in-Ok.ensures.ok;
  code = c.of.ensures.code;
  task = c.of.ensures.task;
  cells = c.of.ensures.cells;
  released = c.of.ensures.released;
  left = c.of.ensures.left;
  kept = c.of.ensures.kept;
}
