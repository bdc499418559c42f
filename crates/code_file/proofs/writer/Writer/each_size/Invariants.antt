use Rattle.std.proofs.Common.{◌≡◌, drop}
use Rattle.code_file.specs.CodeText.{size_text}
use Rattle.code_file.specs.Spelling.{each}
use Rattle.code_file.specs.Written.{after}
use Rattle.code_file.proofs.writer.Writer.each_size.Given as goal

abbrev pub invariant-loop-size : goal.invariant-loop-size
invariant-loop-size l = after l.self (each size_text (drop l.size-index l.sizes)) ≡ after l.fn.self (each size_text l.sizes)
