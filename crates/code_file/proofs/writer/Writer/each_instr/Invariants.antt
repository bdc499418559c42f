use Rattle.std.proofs.Common.{◌≡◌, drop}
use Rattle.code_file.specs.CodeText.{instr_text}
use Rattle.code_file.specs.Spelling.{each}
use Rattle.code_file.specs.Written.{after}
use Rattle.code_file.proofs.writer.Writer.each_instr.Given as goal

abbrev pub invariant-loop-instr : goal.invariant-loop-instr
invariant-loop-instr l = after l.self (each instr_text (drop l.instr-index l.instrs)) ≡ after l.fn.self (each instr_text l.instrs)
