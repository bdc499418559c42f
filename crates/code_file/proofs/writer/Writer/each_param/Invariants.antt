use Rattle.std.proofs.Common.{◌≡◌, drop}
use Rattle.code_file.specs.CodeText.{param_text}
use Rattle.code_file.specs.Spelling.{each}
use Rattle.code_file.specs.Written.{after}
use Rattle.code_file.proofs.writer.Writer.each_param.Given as goal

abbrev pub invariant-loop-param : goal.invariant-loop-param
invariant-loop-param l = after l.self (each param_text (drop l.param-index l.params)) ≡ after l.fn.self (each param_text l.params)
