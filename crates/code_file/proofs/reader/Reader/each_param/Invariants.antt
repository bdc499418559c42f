use Rattle.std.proofs.Common.{◌≡◌, ◌-◌}
use Rattle.code_file.specs.Reading.{with_front, read, times, param_reader}
use Rattle.code_file.proofs.reader.Reader.each_param.Given as goal

abbrev pub invariant-loop-i : goal.invariant-loop-i
invariant-loop-i l = with_front l.params.items (read (times (l.count - l.i) param_reader) l.self) ≡ read (times l.count param_reader) l.fn.self
