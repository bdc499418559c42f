use Rattle.std.proofs.Common.{◌≡◌, ◌-◌, map}
use Rattle.code_file.specs.Reading.{with_front, read, times, label_reader}
use Rattle.cell_code.specs.Plain.{plain_label}
use Rattle.code_file.proofs.reader.Reader.each_label.Given as goal

abbrev pub invariant-loop-i : goal.invariant-loop-i
invariant-loop-i l = with_front (map plain_label l.labels.items) (read (times (l.count - l.i) (label_reader l.registers)) l.self) ≡ read (times l.count (label_reader l.registers)) l.fn.self
