use Rattle.std.proofs.Common.{◌≡◌, drop}
use Rattle.code_file.specs.Written.{second_text}
use Rattle.code_file.specs.Spelling.{each}
use Rattle.code_file.specs.Written.{after}
use Rattle.code_file.proofs.writer.Writer.each_function.Given as goal

abbrev pub invariant-loop-function : goal.invariant-loop-function
invariant-loop-function l = after l.self (each second_text (drop l.function-index l.functions)) ≡ after l.fn.self (each second_text l.functions)
