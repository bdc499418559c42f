-- What each command asks of a host: which file it fetches first, whether it reads the input, and under which name it
-- stores; what it requires of that file; and what it must have found before it reaches its input.
--
-- `exec list.fip3 rev` reaches its input where list.fip3 is there, breaks no rule and has a root rev that isn't plain;
-- `run list.code rev` where list.code is the file of a sound code that has a function of this name.
use Rattle.std.specs.Prelude.{ℕ, List, Option, Some, None}
use Rattle.fip_outside.specs.Files.{File, HoldsFile}
use Rattle.command_library.specs.command_words.Words.{Command, Check, Compile, Verify, Upgrade, Exec, Run, Eval, Trace}
use Rattle.command_library.specs.command_words.Words.{Session, Tasks, Derive, Audit, Replay, Library, Gen}
use Rattle.command_library.specs.command_source.Codes.{HasFunction}
use Rattle.command_library.specs.command_source.Wanted.{Wanted, Lawful, Root, Compiled, IsReady}

-- those that read the input
abbrev pub ReadsInput : Command → Type 0
ReadsInput (Exec r) = Unit {0}
ReadsInput (Run r) = Unit {0}
ReadsInput (Eval file entry calls frames) = Unit {0}
ReadsInput (Trace file entry out room) = Unit {0}
ReadsInput (Session file room) = Unit {0}
ReadsInput (Tasks file seed turns room) = Unit {0}
ReadsInput c = ⊥

-- those that call no folder
abbrev pub CallsNoFolder : Command → Type 0
CallsNoFolder (Library name) = Unit {0}
CallsNoFolder (Gen seed count) = Unit {0}
CallsNoFolder c = ⊥

-- the name under which a command stores
abbrev pub stored_name : Command → Option (List ℕ)
stored_name (Compile file out) = Some out
stored_name (Upgrade file out) = Some out
stored_name (Derive file out) = Some out
stored_name (Trace file entry out room) = Some out
stored_name c = None

-- the name of the file that is fetched first
abbrev pub fetched_name : Command → Option (List ℕ)
fetched_name (Check file) = Some file
fetched_name (Compile file out) = Some file
fetched_name (Verify file) = Some file
fetched_name (Upgrade file out) = Some file
fetched_name (Exec r) = Some r.file
fetched_name (Run r) = Some r.file
fetched_name (Eval file entry calls frames) = Some file
fetched_name (Trace file entry out room) = Some file
fetched_name (Session file room) = Some file
fetched_name (Tasks file seed turns room) = Some file
fetched_name (Derive file out) = Some file
fetched_name (Audit file proof) = Some file
fetched_name (Replay trace step) = Some trace
fetched_name (Library name) = None
fetched_name (Gen seed count) = None

-- what is required of that file, where it is a source of which all rules are checked
abbrev pub wanted : Command → Option Wanted
wanted (Check file) = Some Lawful
wanted (Compile file out) = Some Lawful
wanted (Exec r) = Some (Compiled r.entry)
wanted (Eval file entry calls frames) = Some (Root entry)
wanted (Trace file entry out room) = Some (Compiled entry)
wanted (Session file room) = Some Lawful
wanted (Tasks file seed turns room) = Some Lawful
wanted (Derive file out) = Some Lawful
wanted c = None

-- ---- before the input

abbrev pub IsReadyFor : List ℕ → Option Wanted → Type 0
IsReadyFor source None = Unit {0}
IsReadyFor source (Some w) = IsReady source w

-- These bytes have what a command requires of the file that is fetched first.
abbrev pub HasWanted : Command → List ℕ → Type 0
HasWanted (Run r) bytes = HasFunction bytes r.entry
HasWanted c bytes = IsReadyFor bytes (wanted c)

abbrev pub HoldsWanted : Command → Option (List File) → Option (List ℕ) → Type 0
HoldsWanted c files None = Unit {0}
HoldsWanted c files (Some name) = (bytes : List ℕ) × HoldsFile files name bytes × HasWanted c bytes

-- A command has reached its input: its file is there, and has what is required.
abbrev pub ComesToInput : Command → Option (List File) → Type 0
ComesToInput c files = HoldsWanted c files (fetched_name c)
