-- The commands on a source of which an end is shown wherever the source is refused or has what they require, whatever
-- the input is: `check`, `exec`, `eval` and `derive`. And what `compile` and `trace` require besides, since they store
-- or run a code of their source: that there is one, where the source is accepted. The other commands require nothing
-- besides.
use Rattle.std.specs.Prelude.{◌≡◌, ℕ, List, Some}
use Rattle.command_answers.specs.fip_outside.Files.{File, file_of}
use Rattle.command_answers.specs.command_library.command_source.Wanted.{Lawful, IsReady}
use Rattle.command_answers.specs.command_library.command_words.Words.{Command, Check, Compile, Exec, Eval, Trace, Derive}
use Rattle.command_answers.specs.CodeOf.{IsSourceCode}
use Rattle.worked_examples.specs.cell_code.Plain.{PlainCode}

abbrev pub IsCertain : Command → Type 0
IsCertain (Check file) = Unit {0}
IsCertain (Exec r) = Unit {0}
IsCertain (Eval file entry calls frames) = Unit {0}
IsCertain (Derive file out) = Unit {0}
IsCertain c = ⊥

-- A source of this name that is accepted has a code.
abbrev pub HasCode : List File → List ℕ → Type 0
HasCode files name = (source : List ℕ) → file_of name files ≡ Some source → IsReady source Lawful →
    (code : PlainCode) × IsSourceCode source code

abbrev pub IsCoded : List File → Command → Type 0
IsCoded files (Compile file out) = HasCode files file
IsCoded files (Trace file entry out room) = HasCode files file
IsCoded files c = Unit {0}
