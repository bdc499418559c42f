use Rattle.std.proofs.Common.{◌≡◌, ◌-◌}
use Rattle.code_file.specs.Reading.{with_front, read, times, two_reader}
use Rattle.code_file.proofs.reader.Reader.type_numbers.Given as goal

abbrev pub invariant-loop-i : goal.invariant-loop-i
invariant-loop-i l = with_front l.types.items (read (times (l.count - l.i) two_reader) l.self) ≡ read (times l.count two_reader) l.fn.self
