use Rattle.std.proofs.Common.{◌≡◌, ◌-◌}
use Rattle.code_file.specs.Reading.{with_front, read, times, type_reader}
use Rattle.code_file.proofs.reader.Reader.data_types.Given as goal

abbrev pub invariant-loop-i : goal.invariant-loop-i
invariant-loop-i l = with_front l.types (read (times (l.count - l.i) type_reader) l.self) ≡ read (times l.count type_reader) l.fn.self
