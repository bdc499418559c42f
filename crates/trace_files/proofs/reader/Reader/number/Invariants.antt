use Rattle.std.proofs.Common.{◌≡◌, ◌<◌, ◌^◌, ◌-◌}
use Rattle.run_loading.specs.TraceReading.{read_number}
use Rattle.trace_files.proofs.reader.Reader.number.Given as goal

abbrev pub invariant-loop-i : goal.invariant-loop-i
invariant-loop-i l = record {
  reads : read_number (l.width - l.i) l.number l.self.at l.self.rest ≡ read_number l.width 0 l.fn.self.at l.fn.self.rest;
  below : l.number < 256 ^ l.i;
}
