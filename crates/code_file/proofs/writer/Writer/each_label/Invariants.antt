use Rattle.std.proofs.Common.{◌≡◌, drop}
use Rattle.code_file.specs.Written.{label_in}
use Rattle.code_file.specs.Spelling.{each}
use Rattle.code_file.specs.Written.{after}
use Rattle.code_file.proofs.writer.Writer.each_label.Given as goal

abbrev pub invariant-loop-label : goal.invariant-loop-label
invariant-loop-label l = after l.self (each (label_in l.registers) (drop l.label-index l.labels)) ≡ after l.fn.self (each (label_in l.registers) l.labels)
