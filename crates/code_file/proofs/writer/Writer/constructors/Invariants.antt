use Rattle.std.proofs.Common.{◌≡◌, drop}
use Rattle.code_file.specs.CodeText.{shape_text}
use Rattle.code_file.specs.Spelling.{each}
use Rattle.code_file.specs.Written.{after}
use Rattle.code_file.proofs.writer.Writer.constructors.Given as goal

abbrev pub invariant-loop-constructor : goal.invariant-loop-constructor
invariant-loop-constructor l = after l.self (each shape_text (drop l.constructor-index l.constructors)) ≡ after l.fn.self (each shape_text l.constructors)
