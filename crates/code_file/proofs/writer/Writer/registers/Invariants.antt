use Rattle.std.proofs.Common.{◌≡◌, drop}
use Rattle.code_file.specs.Spelling.{two}
use Rattle.code_file.specs.Spelling.{each}
use Rattle.code_file.specs.Written.{after}
use Rattle.code_file.proofs.writer.Writer.registers.Given as goal

abbrev pub invariant-loop-register : goal.invariant-loop-register
invariant-loop-register l = after l.self (each two (drop l.register-index l.registers)) ≡ after l.fn.self (each two l.registers)
