use Rattle.command_trace.proofs.OneTrace.{one_end, one_trace}
use Rattle.command_trace.proofs.theorems.an_input_has_one_run.Goals as goal

pub returns : goal.returns
returns c = record { end = one_end; trace = one_trace }
