use Rattle.std.proofs.Common.{◌≡◌, ◌-◌, map}
use Rattle.code_file.specs.Reading.{with_front, read, times, function_reader}
use Rattle.cell_code.specs.Plain.{plain_function}
use Rattle.code_file.proofs.reader.Reader.each_function.Given as goal

abbrev pub invariant-loop-i : goal.invariant-loop-i
invariant-loop-i l = with_front (map plain_function l.functions.items) (read (times (l.count - l.i) (function_reader l.version)) l.self) ≡ read (times l.count (function_reader l.version)) l.fn.self
