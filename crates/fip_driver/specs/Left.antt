-- What a command leaves to a host: the code that ran, and the cells as its run left them, place by place.
--
-- `exec`, `run`, `gen` and `trace` leave them just where they answer with status 0, 3, 4 or 7: with values, in a trap, or
-- out of calls or frames. So `exec rev.fp rev` leaves the code of rev.fp and its reversed cells; and where rev.fp breaks
-- a rule, the input is no value text, or out fails, nothing is left. No other command leaves anything.
use Rattle.std.specs.Prelude.{◌≡◌, ℕ, Bool, true, false, ◌==◌, List, Option, Some, None, if◌then◌else◌}
use Rattle.fip_outside.specs.Files.{File, HoldsFile}
use Rattle.command_words.specs.Words.{Room, Command, Exec, Run, Trace, Gen, IsCommand}
use Rattle.command_answers.specs.command_library.command_source.Entries.{Chosen, IsFunctionOf}
use Rattle.command_answers.specs.command_library.command_run.Leaving.{LeavesOf}
use Rattle.command_answers.specs.command_library.command_run.declared.running.Left.{Left}
use Rattle.command_answers.specs.command_library.GenAnswer.{build, gen_room, tree_source}
use Rattle.command_answers.specs.command_library.MadeTree.{gen_input}
use Rattle.command_answers.specs.CodeOf.{IsSourceEntry}
use Rattle.command_answers.specs.Stored.{IsReported}

-- those that run a code, and leave it
abbrev pub LeavesCells : Command → Type 0
LeavesCells (Exec r) = Unit {0}
LeavesCells (Run r) = Unit {0}
LeavesCells (Trace file entry out room) = Unit {0}
LeavesCells (Gen seed count) = Unit {0}
LeavesCells c = ⊥

-- It is left by the run of such a code and function on the input, which is what the source reported, where it reported something.
abbrev pub LeftOn : (Chosen → Type 0) → Option (List ℕ) → Room → Left → Type 0
LeftOn IsSuch reported room l = (input : List ℕ) × IsReported reported input × LeavesOf IsSuch input room l

-- It is left by the command, by the files before and the input, where they are reported: a code of the source that it fetched,
-- or just the code of the file.
abbrev pub LeftBy : Command → Option (List File) → Option (List ℕ) → Left → Type 0
LeftBy (Exec r) files reported l =
    (source : List ℕ) × HoldsFile files r.file source × LeftOn (IsSourceEntry source r.entry) reported r.room l
LeftBy (Run r) files reported l =
    (bytes : List ℕ) × HoldsFile files r.file bytes × LeftOn (IsFunctionOf bytes r.entry) reported r.room l
LeftBy (Trace file entry out room) files reported l =
    (source : List ℕ) × HoldsFile files file source × LeftOn (IsSourceEntry source entry) reported room l
LeftBy (Gen seed count) files reported l = LeavesOf (IsSourceEntry tree_source build) (gen_input seed count) gen_room l
LeftBy c files reported l = ⊥

-- Where a run ended of a command that these words ask for something is left, by that command; else nothing.
abbrev pub LeavesFor : List (List ℕ) → Option (List File) → Option (List ℕ) → (ended : Bool) → Option Left → Type 0
LeavesFor words files reported ended None = (c : Command) → IsCommand words c → LeavesCells c → ended ≡ false
LeavesFor words files reported ended (Some l) =
    (ended ≡ true) × ((c : Command) × IsCommand words c × LeftBy c files reported l)

-- the status of a run that ended: with values, in a trap, or out of calls or frames
abbrev pub is_run_status : ℕ → Bool
is_run_status s = if s == 0 then true else if s == 3 then true else if s == 4 then true else s == 7
