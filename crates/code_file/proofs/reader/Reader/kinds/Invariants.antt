use Rattle.std.proofs.Common.{◌≡◌, ◌-◌}
use Rattle.code_file.specs.Reading.{with_front, read, times, kind_reader}
use Rattle.code_file.proofs.reader.Reader.kinds.Given as goal

abbrev pub invariant-loop-i : goal.invariant-loop-i
invariant-loop-i l = with_front l.kinds.items (read (times (l.registers - l.i) kind_reader) l.self) ≡ read (times l.registers kind_reader) l.fn.self
