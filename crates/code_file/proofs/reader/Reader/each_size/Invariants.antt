use Rattle.std.proofs.Common.{◌≡◌, ◌-◌}
use Rattle.code_file.specs.Reading.{with_front, read, times, size_reader}
use Rattle.code_file.proofs.reader.Reader.each_size.Given as goal

abbrev pub invariant-loop-i : goal.invariant-loop-i
invariant-loop-i l = with_front l.sizes.items (read (times (l.count - l.i) size_reader) l.self) ≡ read (times l.count size_reader) l.fn.self
