use Rattle.std.proofs.Common.{◌≡◌, drop}
use Rattle.code_file.specs.Spelling.{two}
use Rattle.code_file.specs.Spelling.{each}
use Rattle.code_file.specs.Written.{after}
use Rattle.code_file.proofs.writer.Writer.each_type.Given as goal

abbrev pub invariant-loop-ty : goal.invariant-loop-ty
invariant-loop-ty l = after l.self (each two (drop l.ty-index l.types)) ≡ after l.fn.self (each two l.types)
