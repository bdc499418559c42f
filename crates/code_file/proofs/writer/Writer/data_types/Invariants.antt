use Rattle.std.proofs.Common.{◌≡◌, drop}
use Rattle.code_file.specs.CodeText.{type_text}
use Rattle.code_file.specs.Spelling.{each}
use Rattle.code_file.specs.Written.{after}
use Rattle.code_file.proofs.writer.Writer.data_types.Given as goal

abbrev pub invariant-loop-i : goal.invariant-loop-i
invariant-loop-i l = after l.self (each type_text (drop l.i l.types)) ≡ after l.fn.self (each type_text l.types)
