use Rattle.std.proofs.Common.{arith}
use Rattle.trace_files.proofs.Traces.{bytes_small, is_trace}
use Rattle.trace_files.proofs.read.read_trace.Goals as goal

pub returns-clause-trace : goal.returns-clause-trace
returns-clause-trace c = is_trace c.args.bytes.now c.whole.result (bytes_small c.args.bytes.now (λ i. let f = c.type_inv.bytes i in omega (arith, f))) c.whole.ensures.reads
