use Rattle.std.proofs.Common.{◌≡◌, drop}
use Rattle.run_loading.specs.TraceReading.{read_exactly}
use Rattle.trace_files.proofs.reader.Reader.exactly.Given as goal

abbrev pub invariant-loop-byte : goal.invariant-loop-byte
invariant-loop-byte l = read_exactly (drop l.byte-index l.wanted) l.self.at l.self.rest ≡ read_exactly l.wanted l.fn.self.at l.fn.self.rest
