-- What words end in where an object fails, or reports nothing, and whose turn had come then: first that of the words,
-- then of the folder, of the source or the code that was fetched, and at last of the input.
use Rattle.std.specs.Prelude.{◌≡◌, ◌⊎◌, ℕ, List, Option, Some, None, Ok, Err}
use Rattle.fip_language.specs.declared.rule.Rule.TheVariants.{E75}
use Rattle.fip_outside.specs.Files.{File}
use Rattle.command_words.specs.Words.{Command, Audit, Trace, IsCommand}
use Rattle.command_outcome.specs.declared.failure.Failure.TheVariants as F
use Rattle.command_outcome.specs.declared.failure.Object.TheVariants as O
use Rattle.command_answers.specs.Answer.{ComesTo, IsNoCommand}
use Rattle.command_answers.specs.Asks.{ReadsInput, CallsNoFolder, ComesToInput}
use Rattle.command_answers.specs.Ends.{Audits}
use Rattle.command_answers.specs.Exec.{End}
use Rattle.command_answers.specs.Stored.{IsReported}
use Rattle.fip_driver.specs.Delivered.{Outcome}

-- a result without where its bytes lie in memory
abbrev pub end_of : Outcome → End
end_of (Ok text) = Ok text.items
end_of (Err failure) = Err failure

-- running out of memory, or a fault that was counted of an object that the command calls; of the input only where the
-- command had reached it
abbrev pub IsFault : Command → Type 0 → Type 0 → Type 0 → End → Type 0
IsFault c came folder_rose input_rose (Err F.NoMemory) = Unit {0}
IsFault c came folder_rose input_rose (Err (F.Fault O.Folder)) = folder_rose × (CallsNoFolder c → ⊥)
IsFault c came folder_rose input_rose (Err (F.Fault O.Input)) = input_rose × ReadsInput c × came
IsFault c came folder_rose input_rose e = ⊥

-- what a command ends in on files, or a fault
abbrev pub Closes : List File → List ℕ → Command → Type 0 → Type 0 → End → Type 0
Closes files input c folder_rose input_rose e =
    IsFault c (ComesToInput c (Some files)) folder_rose input_rose e ⊎ ComesTo files input c e

-- A folder that reports nothing may give other bytes at each fetch, even under one name. So of `audit` it is said then
-- that some bytes of the source and of the proof file end it so.
abbrev pub IsUntoldAudit : Option (List File) → Command → End → Type 0
IsUntoldAudit (Some files) c e = ⊥
IsUntoldAudit None (Audit file proof) e = (source : List ℕ) × (bytes : List ℕ) × Audits source (Some bytes) e
IsUntoldAudit None c e = ⊥

-- what words end in before there is a command: they are none, or memory runs out
abbrev pub IsUnasked : List (List ℕ) → Outcome → Type 0
IsUnasked words (Err F.NotUnderstood) = IsNoCommand words
IsUnasked words (Err F.NoMemory) = Unit {0}
IsUnasked words o = ⊥

-- What words end in: they ask for no command, or memory runs out; or it is what a command ends with on files and an
-- input, which are what the folder and the input reported, where they reported something; or `audit` where the folder
-- reports none.
abbrev pub WordsOutcome : List (List ℕ) → Option (List File) → Option (List ℕ) → Type 0 → Type 0 → Outcome → Type 0
WordsOutcome words files left folder_rose input_rose o =
    (all : List File) × (input : List ℕ) × IsReported files all × IsReported left input
    × (IsUnasked words o
    ⊎ ((c : Command) × IsCommand words c × Closes all input c folder_rose input_rose (end_of o))
    ⊎ ((c : Command) × IsCommand words c × IsUntoldAudit files c (end_of o)))

-- the count of a folder that reports nothing rose
abbrev pub RoseUntold : Option (List File) → Type 0 → Type 0
RoseUntold None rose = rose
RoseUntold (Some files) rose = Unit {0}

-- A fault of a folder that reports nothing is named only where its count rose.
abbrev pub IsCounted : Option (List File) → Type 0 → Outcome → Type 0
IsCounted files rose (Err (F.Fault O.Folder)) = RoseUntold files rose
IsCounted files rose o = Unit {0}

-- It was that of the words, the folder, or the source or the code.
abbrev pub IsBeforeInput : Outcome → Type 0
IsBeforeInput (Err F.NotUnderstood) = Unit {0}
IsBeforeInput (Err (F.Refused r)) = Unit {0}
IsBeforeInput (Err (F.BadCode at)) = Unit {0}
IsBeforeInput (Err (F.Unsound function at rule)) = Unit {0}
IsBeforeInput (Err (F.BadTrace at)) = Unit {0}
IsBeforeInput (Err (F.Fault O.Folder)) = Unit {0}
IsBeforeInput o = ⊥

-- The same of `trace`. Its trace may be refused for its length (E75), and is stored, after the run.
abbrev pub IsBeforeTrace : Outcome → Type 0
IsBeforeTrace (Err (F.Refused r)) = r.rule ≡ E75 → ⊥
IsBeforeTrace (Err (F.Fault O.Folder)) = ⊥
IsBeforeTrace o = IsBeforeInput o

abbrev pub IsBeforeInputOf : Command → Outcome → Type 0
IsBeforeInputOf (Trace file entry out room) o = IsBeforeTrace o
IsBeforeInputOf c o = IsBeforeInput o

-- The words ask for a command that reads the input, and its turn had come: its file is there and has what is required.
-- (`trace` may still fail at the folder after its input, and by a rule; the other commands don't.)
abbrev pub HadInput : List (List ℕ) → Option (List File) → Outcome → Type 0
HadInput words files o =
    (c : Command) × IsCommand words c × ReadsInput c × (IsBeforeInputOf c o → ⊥) × ComesToInput c files
