use Rattle.std.proofs.Common.{◌≡◌, ◌-◌, []}
use Rattle.code_file.specs.Reading.{read, name_on}
use Rattle.code_file.proofs.reader.Reader.function_bytes.Given as goal

abbrev pub invariant-loop-i : goal.invariant-loop-i
invariant-loop-i l = read (name_on (l.length - l.i) l.name.items) l.self ≡ read (name_on l.length []) l.fn.self
