use Rattle.std.proofs.Common.{◌≡◌, ◌-◌}
use Rattle.run_loading.specs.TraceReading.{read_words}
use Rattle.trace_files.proofs.Steps.{with_front}
use Rattle.trace_files.proofs.reader.Reader.words.Given as goal

abbrev pub invariant-loop-i : goal.invariant-loop-i
invariant-loop-i l = with_front l.words.items (read_words (l.count - l.i) l.self.at l.self.rest) ≡ read_words l.count l.fn.self.at l.fn.self.rest
