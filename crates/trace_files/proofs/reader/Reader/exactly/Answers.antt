use Rattle.std.proofs.lemmas.Result.{err_from_is_err_and}
use Rattle.run_loading.specs.TraceReading.{read_exactly}
use Rattle.trace_files.proofs.Steps.{exactly_err}
use Rattle.trace_files.proofs.reader.Reader.exactly.Goals as goal

pub returns-in_err-byte : goal.returns-in_err-byte
returns-in_err-byte c =
    let p = err_from_is_err_and c.from_residual.result c.from_residual.ensures.1 in
    record { reads = rw (p.1, p.2) (exactly_err c.args.wanted.now c.loop-byte.byte-index c.loop-byte.self c.byte.new.self c.byte.new.self c.in_err-byte.field-0.0 (read_exactly c.args.wanted.now c.args.self.now.at c.args.self.now.rest) c.loop-byte-test.true c.loop-byte.invariant c.in_err-byte.ensures.reads) }
