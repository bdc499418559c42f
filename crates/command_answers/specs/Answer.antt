-- What words, files and an input end in, where no object fails: the status, the texts on out and err, and the files.
-- All fifteen commands are said here, and nothing else says what a command answers.
--
-- The causes come in this order. The words are no command: status 2. The file that the command fetches first is
-- missing: status 9. The source, the code or the trace is refused, then the entry: status 1 or 8. The input has too
-- many bytes, or is no text of what the command requires: status 5. The store is too small: status 6. Then the command
-- does what it does: a run may end in a trap, 3, out of calls, 4, or out of frames, 7; a file may be too long to be
-- stored, 1. Else it is done: status 0. Where the status isn't 0, its text is on err, out is as it was, and so are the
-- files. Running out of memory, status 10, may come at any place of this order.
--
-- `exec list.fip3 rev` without that file has status 9 and `fault: folder` on err; where it breaks a rule, status 1 and
-- its report; and with `Nil` and `Nil` on the input, status 0 and `Nil` on out.
use Rattle.std.specs.Prelude.{◌≡◌, ◌⊎◌, ℕ, List, Option, Some, None, Ok, Err}
use Rattle.std.specs.Io.KnownBytes.{Appends}
use Rattle.fip_outside.specs.Files.{File, file_of}
use Rattle.command_library.specs.command_words.Words.{Command, Verify, Upgrade, Run, Audit, Replay, Library, Gen}
use Rattle.command_library.specs.command_words.Words.{IsCommand}
use Rattle.command_library.specs.command_outcome.Failures.{failure_status, failure_text}
use Rattle.command_library.specs.command_outcome.Texts.{not_understood_text, no_memory_text}
use Rattle.command_library.specs.command_outcome.declared.failure.Failure.TheVariants as F
use Rattle.command_library.specs.command_outcome.declared.failure.Object.TheVariants as O
use Rattle.command_library.specs.command_source.Wanted.{Wanted}
use Rattle.command_library.specs.library_sources.Texts.{IsText}
use Rattle.command_answers.specs.Asks.{fetched_name, stored_name, wanted}
use Rattle.command_answers.specs.Ends.{OnSource, OnCode, Audits, Replays}
use Rattle.command_answers.specs.Exec.{End}
use Rattle.command_answers.specs.Generating.{Generates}
use Rattle.command_answers.specs.Stored.{Stores}

-- ---- the end, by the file that is fetched first

abbrev pub OnWanted : List ℕ → List ℕ → Command → Option Wanted → End → Type 0
OnWanted source input c None e = ⊥
OnWanted source input c (Some w) e = OnSource source input c w e

abbrev pub OnFile : List File → List ℕ → List ℕ → Command → End → Type 0
OnFile files bytes input (Verify file) e = OnCode bytes input (Verify file) e
OnFile files bytes input (Upgrade file out) e = OnCode bytes input (Upgrade file out) e
OnFile files bytes input (Run r) e = OnCode bytes input (Run r) e
OnFile files bytes input (Audit file proof) e = Audits bytes (file_of proof files) e
OnFile files bytes input (Replay trace step) e = Replays bytes step e
OnFile files bytes input c e = OnWanted bytes input c (wanted c) e

abbrev pub OnFound : List File → List ℕ → Command → Option (List ℕ) → End → Type 0
OnFound files input c None e = e ≡ Err (F.Fault O.Folder)
OnFound files input c (Some bytes) e = OnFile files bytes input c e

-- what a command ends with that fetches no file
abbrev pub EndsAlone : Command → End → Type 0
EndsAlone (Library name) (Ok text) = IsText name text
EndsAlone (Gen seed count) e = Generates seed count e
EndsAlone c e = ⊥

abbrev pub OnNamed : List File → List ℕ → Command → Option (List ℕ) → End → Type 0
OnNamed files input c None e = EndsAlone c e
OnNamed files input c (Some name) e = OnFound files input c (file_of name files) e

-- what a command ends with
abbrev pub ComesTo : List File → List ℕ → Command → End → Type 0
ComesTo files input c e = OnNamed files input c (fetched_name c) e

-- ---- the whole

-- how an end is shown: a text on out with status 0; or a status other than 0 with its text on err alone
abbrev pub Shows : End → Option (List ℕ) → Option (List ℕ) → Option (List ℕ) → Option (List ℕ) → ℕ → Type 0
Shows (Ok text) out out' err err' s = (s ≡ 0) × (err' ≡ err) × Appends out out' text
Shows (Err failure) out out' err err' s =
    (s ≡ failure_status failure) × (out' ≡ out) × Appends err err' (failure_text failure)

-- what a host finds: out and err before and after, the files after, and the status
pub record Host : Type 0 where
  pub out : Option (List ℕ)
  pub out' : Option (List ℕ)
  pub err : Option (List ℕ)
  pub err' : Option (List ℕ)
  pub files : Option (List File)
  pub status : ℕ

abbrev pub host : Option (List ℕ) → Option (List ℕ) → Option (List ℕ) → Option (List ℕ) → Option (List File) → ℕ → Host
host out out' err err' files status =
    record { out = out; out' = out'; err = err; err' = err'; files = files; status = status }

-- It finds what the command ends in.
pub record IsAnswer (c : Command) (files : List File) (input : List ℕ) (h : Host) : Type 0 where
  pub end : End
  pub ends : ComesTo files input c end
  pub shown : Shows end h.out h.out' h.err h.err' h.status
  pub stored : Stores c files input (stored_name c) end h.files

-- It finds a status and its text on err alone.
pub record IsAlone (files : List File) (status : ℕ) (text : List ℕ) (h : Host) : Type 0 where
  pub ended : h.status ≡ status
  pub unwritten : h.out' ≡ h.out
  pub shown : Appends h.err h.err' text
  pub kept : h.files ≡ Some files

abbrev pub IsNoCommand : List (List ℕ) → Type 0
IsNoCommand words = (c : Command) → IsCommand words c → ⊥

-- The words have this answer.
abbrev pub Answered : List (List ℕ) → List File → List ℕ → Host → Type 0
Answered words files input h = IsAlone files 10 no_memory_text h
    ⊎ (IsNoCommand words × IsAlone files 2 not_understood_text h)
    ⊎ ((c : Command) × IsCommand words c × IsAnswer c files input h)
