-- What a call that stores something fetched, which code `compile` or `trace` made of it, and that just these decide what is
-- stored, and where E61 or E75 is reported in its place.
--
-- `compile rev.fp o` fetched the source rev.fp, and made one code of it. At status 0 the file o is that of this code; at status
-- 1 this code has no file of at most 16,777,216 bytes. `trace rev.fp rev o` made one and ran its function rev from where the
-- input is loaded. At status 0 the file o is that of the trace of this run, and what is left is this code; at status 1 this
-- trace has no file. `upgrade` and `derive` store a file of just what they fetched. Where nothing was fetched, since the
-- folder failed or has no such file, or no code was made, since the source is refused, no file changes.
use Rattle.std.specs.Prelude.{◌≡◌, ◌≤◌, ℕ, List, length, Option, Some, None}
use Rattle.fip_language.specs.declared.limits.TheConstants.{MOST_FILE_BYTES}
use Rattle.fip_outside.specs.Files.{File, HoldsFile}
use Rattle.code_verify.specs.Checked.{Checked}
use Rattle.command_words.specs.Words.{Room, Command, Compile, Derive, Trace, Upgrade, IsCommand}
use Rattle.command_answers.specs.command_tasks.code_file.CodeText.{CodeText}
use Rattle.code_verify.specs.cell_code.Plain.{PlainCode, plain}
use Rattle.command_answers.specs.command_tasks.code_file.declared.tags.Version.TheVariants.{Second}
use Rattle.command_answers.specs.command_library.command_source.Codes.{IsUnspelt, IsUpgraded}
use Rattle.command_answers.specs.command_library.command_source.Derived.{IsDerivedFile}
use Rattle.command_answers.specs.command_library.command_source.Entries.{Chosen}
use Rattle.command_answers.specs.command_library.run_loading.TraceText as T
use Rattle.command_answers.specs.command_library.command_run.declared.running.Left.{Left}
use Rattle.command_answers.specs.command_trace.RunTrace.{IsRunTrace, IsLong, code_of}
use Rattle.command_answers.specs.Asks.{HasWanted}
use Rattle.command_answers.specs.CodeOf.{IsSourceCode, IsSourceEntry}
use Rattle.command_answers.specs.Stored.{IsReported}

-- `compile` made this code: where it is done its file is stored; where it is refused it has none that isn't too long.
pub record CompilesCode (code : PlainCode) (out : List ℕ) (new : Option (List File)) (done refused : Type 0) : Type 0
  where
    pub stored : done → (file : List ℕ) × HoldsFile new out file × CodeText file Second code
        × (length file ≤ MOST_FILE_BYTES)
    pub long : refused → IsUnspelt code

-- `trace` ran this function of a code on the input: where it is done the file of the run's trace is stored; where it is
-- refused this trace is too long, or reports more than a file can.
pub record TracesRun (r : Chosen) (input : List ℕ) (room : Room) (out : List ℕ) (new : Option (List File))
    (done refused : Type 0) : Type 0 where
  pub stored : done → (t : T.Trace) × IsRunTrace (plain r.checked.code) r.entry input room t × (IsLong t → ⊥)
      × HoldsFile new out (T.trace_text t)
  pub long : refused → (t : T.Trace) × IsRunTrace (plain r.checked.code) r.entry input room t × IsLong t

-- What was fetched, and the file that is made of just this, which is stored where the command is done.
pub record StoresOf (Made : List ℕ → List ℕ → Type 0) (file fetched out : List ℕ) (old new : Option (List File))
    (done : Type 0) : Type 0 where
  pub holds : HoldsFile old file fetched
  pub stored : done → (bytes : List ℕ) × HoldsFile new out bytes × Made fetched bytes

-- Nothing was fetched, or no code was made of what was: the command isn't done, no file changes, and it is refused only
-- where its source, which is the fetched one, hasn't what it requires.
pub record IsUnmade (c : Command) (file : List ℕ) (fetched : Option (List ℕ)) (old new : Option (List File))
    (done refused : Type 0) : Type 0 where
  pub undone : done → ⊥
  pub kept : new ≡ old
  pub unready : refused → (source : List ℕ) × IsReported fetched source × HoldsFile old file source
      × (HasWanted c source → ⊥)

-- What was made of the source or the code that the command fetched, by the files before and after it and what the input
-- reported. A command that stores nothing hands no file out.
abbrev pub MadeBy : Command → Option (List File) → Option (List File) → Option (List ℕ) → (done refused : Type 0) →
    Option (List ℕ) → Option Checked → Type 0
MadeBy (Compile file out) old new reported done refused fetched None =
    IsUnmade (Compile file out) file fetched old new done refused
MadeBy (Compile file out) old new reported done refused None (Some v) = ⊥
MadeBy (Compile file out) old new reported done refused (Some source) (Some v) =
    HoldsFile old file source × IsSourceCode source (plain v.code)
    × CompilesCode (plain v.code) out new done refused
MadeBy (Trace file entry out room) old new reported done refused fetched None =
    IsUnmade (Trace file entry out room) file fetched old new done refused
MadeBy (Trace file entry out room) old new reported done refused None (Some v) = ⊥
MadeBy (Trace file entry out room) old new reported done refused (Some source) (Some v) =
    HoldsFile old file source × (input : List ℕ) × IsReported reported input
    × (r : Chosen) × (r.checked ≡ v) × IsSourceEntry source entry r × TracesRun r input room out new done refused
MadeBy (Upgrade file out) old new reported done refused None made =
    IsUnmade (Upgrade file out) file None old new done refused
MadeBy (Upgrade file out) old new reported done refused (Some code) made =
    StoresOf IsUpgraded file code out old new done
MadeBy (Derive file out) old new reported done refused None made =
    IsUnmade (Derive file out) file None old new done refused
MadeBy (Derive file out) old new reported done refused (Some source) made =
    StoresOf IsDerivedFile file source out old new done
MadeBy c old new reported done refused fetched made = fetched ≡ None

-- The same of the command that the words ask for: status 0 is reported where it is done, 1 where it is refused.
abbrev pub MadeFor : List (List ℕ) → Option (List File) → Option (List File) → Option (List ℕ) → ℕ → Option (List ℕ) →
    Option Checked → Type 0
MadeFor words old new reported s fetched made =
    (c : Command) → IsCommand words c → MadeBy c old new reported (s ≡ 0) (s ≡ 1) fetched made

-- It is so of some fetched file and some code of a call: of the code of what is left, or else of another, or of none.
abbrev pub SomeCode : Option Left → (Option (List ℕ) → Option Checked → Type 0) → Type 0
SomeCode left Is = (fetched : Option (List ℕ)) × (made : Option Checked) × Is fetched (code_of left made)
