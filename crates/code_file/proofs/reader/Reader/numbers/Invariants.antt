use Rattle.std.proofs.Common.{◌≡◌, ◌-◌}
use Rattle.code_file.specs.Reading.{with_front, read, times, four_reader}
use Rattle.code_file.proofs.reader.Reader.numbers.Given as goal

abbrev pub invariant-loop-i : goal.invariant-loop-i
invariant-loop-i l = with_front l.numbers.items (read (times (l.count - l.i) four_reader) l.self) ≡ read (times l.count four_reader) l.fn.self
