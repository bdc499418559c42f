-- It serves the theorem that a command ends with one thing: where it may not.
--
-- Two codes of a source may differ in whether their files, or the traces of their runs, are short enough. So of two ends of
-- `compile` on an accepted source that aren't the same one is E61, and of `trace` one is E75.
use Rattle.std.specs.Prelude.{◌≡◌, ◌⊎◌, ℕ, List, Some, Err}
use Rattle.fip_outside.specs.Files.{File}
use Rattle.command_library.specs.fip_language.declared.rule.Rule.{Rule}
use Rattle.command_library.specs.fip_language.declared.rule.Rule.TheVariants.{E61, E75}
use Rattle.command_library.specs.command_words.Words.{Command, Compile, Trace}
use Rattle.command_library.specs.command_outcome.declared.failure.Failure.TheVariants as F
use Rattle.command_library.specs.command_tasks.source_report.Report.{bare}
use Rattle.command_answers.specs.Asks.{ComesToInput}
use Rattle.command_answers.specs.Ends.{IsTaken}
use Rattle.command_answers.specs.Exec.{End}

-- one of two ends is the refusal by this rule
abbrev pub IsEither : Rule → End → End → Type 0
IsEither rule d e = (d ≡ Err (F.Refused (bare rule))) ⊎ (e ≡ Err (F.Refused (bare rule)))

abbrev pub MayDiffer : Command → End → End → Type 0
MayDiffer (Compile file out) d e = IsEither E61 d e
MayDiffer (Trace file entry out room) d e = IsEither E75 d e
MayDiffer c d e = ⊥

-- It is such a command, its source has what it requires, and the input isn't too long.
abbrev pub IsOpen : List File → List ℕ → Command → End → End → Type 0
IsOpen files input c d e = MayDiffer c d e × ComesToInput c (Some files) × IsTaken c input
