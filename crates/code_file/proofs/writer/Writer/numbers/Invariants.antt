use Rattle.std.proofs.Common.{◌≡◌, drop}
use Rattle.code_file.specs.Spelling.{four}
use Rattle.code_file.specs.Spelling.{each}
use Rattle.code_file.specs.Written.{after}
use Rattle.code_file.proofs.writer.Writer.numbers.Given as goal

abbrev pub invariant-loop-number : goal.invariant-loop-number
invariant-loop-number l = after l.self (each four (drop l.number-index l.numbers)) ≡ after l.fn.self (each four l.numbers)
