-- The files after a command that stores under a name, or under none.
--
-- `compile missing.fp o` leaves o as it is; `compile rev.fp o` makes it a file of a code of rev.fp, whatever was there
-- before, and changes no other.
use Rattle.std.specs.Prelude.{◌≡◌, ℕ, List, Option, Some, None, Ok, Err}
use Rattle.fip_outside.specs.Files.{File, HoldsFile, KeepsOthers}
use Rattle.command_library.specs.command_words.Words.{Room, Command, Compile, Derive, Trace, Upgrade}
use Rattle.command_library.specs.command_source.Codes.{IsUpgraded}
use Rattle.command_library.specs.command_source.Derived.{IsDerivedFile}
use Rattle.command_library.specs.command_source.Wanted.{Compiled, IsReady}
use Rattle.command_library.specs.command_tasks.run_loading.TraceText as T
use Rattle.command_library.specs.command_tasks.run_loading.TraceText.{trace_text}
use Rattle.command_trace.specs.RunTrace.{IsLong}
use Rattle.command_answers.specs.CodeOf.{IsSourceFile, IsSourceTrace}
use Rattle.command_answers.specs.Exec.{End}

-- what an object reports, where it reports something
abbrev pub IsReported : {A : Type 0} → Option A → A → Type 0
IsReported None x = Unit {0}
IsReported (Some y) x = y ≡ x

-- On the input, or on some input where it reported nothing, a code of the source has a run of the entry with this file of its
-- trace.
abbrev pub IsTraceFile : (source name : List ℕ) → Room → Option (List ℕ) → List ℕ → Type 0
IsTraceFile source name room input bytes = (text : List ℕ) × IsReported input text × (t : T.Trace)
    × IsSourceTrace source name text room t × (IsLong t → ⊥) × (bytes ≡ trace_text t)

-- What is stored, by the files before, and by what the input reported: the command's file is there and has what is
-- required. `compile` stores the file of a code of its source, `upgrade` that of the second version of the code that it
-- fetched, `derive` the text of the derivation that is made for its source, and `trace` the file of the trace of a run
-- of its source's code on the input.
abbrev pub IsMadeBy : Command → Option (List ℕ) → Option (List File) → List ℕ → Type 0
IsMadeBy (Compile file out) input files bytes =
    (source : List ℕ) × HoldsFile files file source × IsSourceFile source bytes
IsMadeBy (Upgrade file out) input files bytes =
    (code : List ℕ) × HoldsFile files file code × IsUpgraded code bytes
IsMadeBy (Derive file out) input files bytes =
    (source : List ℕ) × HoldsFile files file source × IsDerivedFile source bytes
IsMadeBy (Trace file entry out room) input files bytes = (source : List ℕ) × HoldsFile files file source
    × IsReady source (Compiled entry) × IsTraceFile source entry room input bytes
IsMadeBy c input files bytes = Unit {0}

-- The command's file is stored under this name; each other file is as it was.
pub record IsStored (c : Command) (input : Option (List ℕ)) (name : List ℕ) (old new : Option (List File)) : Type 0 where
  pub others : KeepsOthers old new name
  pub bytes : List ℕ
  pub there : HoldsFile new name bytes
  pub made : IsMadeBy c input old bytes

-- It was made, and storing it failed: what this name has isn't known; each other file is as it was.
pub record IsUnstored (c : Command) (input : Option (List ℕ)) (name : List ℕ) (old new : Option (List File)) : Type 0
  where
    pub others : KeepsOthers old new name
    pub bytes : List ℕ
    pub made : IsMadeBy c input old bytes

-- The files after an end, where no object failed: a text comes after what is stored; else all are as they were.
abbrev pub Stores : Command → List File → List ℕ → Option (List ℕ) → End → Option (List File) → Type 0
Stores c files input None e new = new ≡ Some files
Stores c files input (Some name) (Ok text) new = IsStored c (Some input) name (Some files) new
Stores c files input (Some name) (Err failure) new = new ≡ Some files
