use Rattle.std.proofs.Common.{◌≡◌, ◌-◌}
use Rattle.code_file.specs.Reading.{with_front, read, times, instr_reader}
use Rattle.code_file.proofs.reader.Reader.each_instr.Given as goal

abbrev pub invariant-loop-i : goal.invariant-loop-i
invariant-loop-i l = with_front l.instrs.items (read (times (l.count - l.i) instr_reader) l.self) ≡ read (times l.count instr_reader) l.fn.self
