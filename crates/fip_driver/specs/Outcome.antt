-- It serves the proof of `fp2`: what a command ends in, before it is handed to the sinks.
use Rattle.std.specs.Prelude.{◌≡◌, ◌⊎◌, ℕ, ◌<◌, ◌≤◌, Bool, true, false, List, length, Option, Some, None, Result, Ok, Err}
use Rattle.std.specs.declared.vec.Vec.{Vec}
use Rattle.std.specs.declared.alloc.Global.{Global}
use Rattle.fip_language.specs.declared.limits.TheConstants.{MOST_FILE_BYTES}
use Rattle.fip_outside.specs.Files.{File}
use Rattle.command_words.specs.Words.{Command, IsCommand}
use Rattle.command_answers.specs.command_library.command_source.Wanted.{Wanted, IsReady}
use Rattle.command_answers.specs.command_library.command_source.declared.files.Compiled.{Compiled}
use Rattle.command_answers.specs.command_library.command_run.declared.running.Left.{Left}
use Rattle.command_outcome.specs.declared.failure.Failure.{Failure}
use Rattle.command_outcome.specs.declared.failure.Failure.TheVariants as F
use Rattle.command_outcome.specs.declared.failure.Object.TheVariants as O
use Rattle.command_answers.specs.Asks.{CallsNoFolder, HasWanted}
use Rattle.command_answers.specs.Ends.{OnSource, OnCode}
use Rattle.command_answers.specs.Exec.{End}
use Rattle.command_answers.specs.Stored.{IsReported, IsStored, IsUnstored}
use Rattle.fip_driver.specs.Delivered.{Outcome}
use Rattle.fip_driver.specs.Turns.{IsFault, Closes, IsUntoldAudit, WordsOutcome}
use Rattle.fip_driver.specs.Left.{LeavesCells, LeftBy}

-- it has a result
abbrev pub IsDone : Outcome → Type 0
IsDone (Ok text) = Unit {0}
IsDone (Err failure) = ⊥

-- a rule is reported in its place
abbrev pub IsRefused : Outcome → Type 0
IsRefused (Err (F.Refused r)) = Unit {0}
IsRefused o = ⊥

-- the words are refused
abbrev pub IsBeforeSource : Outcome → Type 0
IsBeforeSource (Err F.NotUnderstood) = Unit {0}
IsBeforeSource o = ⊥

-- The words ask for a command that calls the folder, and its turn had come.
abbrev pub HadFolder : List (List ℕ) → Outcome → Type 0
HadFolder words o = (c : Command) × IsCommand words c × (CallsNoFolder c → ⊥) × (IsBeforeSource o → ⊥)

abbrev pub compiled_end : Result Compiled Failure → End
compiled_end (Ok compiled) = Ok compiled.text.items
compiled_end (Err failure) = Err failure

-- running out of memory, or a fault of the input that was counted
abbrev pub IsInputFault : Type 0 → End → Type 0
IsInputFault rose (Err F.NoMemory) = Unit {0}
IsInputFault rose (Err (F.Fault O.Input)) = rose
IsInputFault rose e = ⊥

-- a fault of the folder is named
abbrev pub IsFolderFault : Result (Vec ℕ Global) Failure → Type 0
IsFolderFault (Err (F.Fault O.Folder)) = Unit {0}
IsFolderFault o = ⊥

-- What reading an input and running on it ends in, by what is said of the end on an input.
abbrev pub ReadOutcome : (List ℕ → End → Type 0) → Option (List ℕ) → Type 0 → End → Type 0
ReadOutcome Is left rose e =
    (input : List ℕ) × IsReported left input × (IsInputFault rose e
    ⊎ (((MOST_FILE_BYTES < length input) × (e ≡ Err (F.BadInput MOST_FILE_BYTES)))
    ⊎ ((length input ≤ MOST_FILE_BYTES) × Is input e)))

-- What a command ends in on a source of which all rules are checked.
abbrev pub SourceOutcome : Command → Wanted → List ℕ → Option (List ℕ) → Type 0 → Type 0 → End → Type 0
SourceOutcome c w source left folder_rose input_rose e =
    (input : List ℕ) × IsReported left input × (IsFault c (IsReady source w) folder_rose input_rose e
    ⊎ OnSource source input c w e)

-- What a command ends in on a code file.
abbrev pub CodeOutcome : Command → List ℕ → Option (List ℕ) → Type 0 → Type 0 → End → Type 0
CodeOutcome c bytes left folder_rose input_rose e =
    (input : List ℕ) × IsReported left input
    × (IsFault c (HasWanted c bytes) folder_rose input_rose e ⊎ OnCode bytes input c e)

-- What a command ends in on the files and the input that the folder and the source reported, where they reported
-- something.
abbrev pub FileOutcome : Command → Option (List File) → Option (List ℕ) → Type 0 → Type 0 → End → Type 0
FileOutcome c files left folder_rose input_rose e =
    (all : List File) × (input : List ℕ) × IsReported files all × IsReported left input
    × Closes all input c folder_rose input_rose e

-- what `audit` ends in
abbrev pub AuditOutcome : Command → Option (List File) → Option (List ℕ) → Type 0 → Type 0 → End → Type 0
AuditOutcome c files left folder_rose input_rose e =
    FileOutcome c files left folder_rose input_rose e ⊎ IsUntoldAudit files c e

-- what a command ends in, whatever words ask for it
abbrev pub CommandOutcome : Command → Option (List File) → Option (List ℕ) → Type 0 → Type 0 →
    Result (Vec ℕ Global) Failure → Type 0
CommandOutcome c files left folder_rose input_rose o =
    (words : List (List ℕ)) → IsCommand words c → WordsOutcome words files left folder_rose input_rose o

-- The files after a command that stores under this name, or under none. A fault of the folder is one of fetching, and
-- then all files are as they were; or, where its count rose, one of storing.
abbrev pub AreKept : Command → Option (List ℕ) → Option (List ℕ) → Type 0 → Option (List File) → Option (List File) →
    Outcome → Type 0
AreKept c left None rose old new o = new ≡ old
AreKept c left (Some name) rose old new (Ok text) = IsStored c left name old new
AreKept c left (Some name) rose old new (Err (F.Fault O.Folder)) =
    (new ≡ old) ⊎ (rose × IsUnstored c left name old new)
AreKept c left (Some name) rose old new (Err failure) = new ≡ old

-- Where a run ended something is left, which is such; else nothing.
abbrev pub Remains : (Left → Type 0) → (ended : Bool) → Option Left → Type 0
Remains IsSuch ended None = ended ≡ false
Remains IsSuch ended (Some l) = (ended ≡ true) × IsSuch l

-- The same of the command.
abbrev pub Leaves : Command → Option (List File) → Option (List ℕ) → (ended : Bool) → Option Left → Type 0
Leaves c files reported ended None = LeavesCells c → ended ≡ false
Leaves c files reported ended (Some l) = (ended ≡ true) × LeftBy c files reported l
