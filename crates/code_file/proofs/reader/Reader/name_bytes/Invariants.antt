use Rattle.std.proofs.Common.{◌≡◌, ◌-◌, [], ◌∷◌}
use Rattle.code_file.specs.Reading.{with_front, read, times, byte, is_name_byte}
use Rattle.code_file.proofs.reader.Reader.name_bytes.Given as goal

abbrev pub invariant-loop-i : goal.invariant-loop-i
invariant-loop-i l = with_front l.name.items (read (times (l.count - l.i) (byte is_name_byte)) l.self) ≡ with_front (l.first ∷ []) (read (times l.count (byte is_name_byte)) l.fn.self)
