-- What each command ends with on the bytes of its file: a text for out, or what keeps it from one.
--
-- A source is refused, or the input has too many bytes, or the command does what it does: `check list.fip3` prints a
-- line for each root, and `eval list.fip3 rev` what the source means, once the input is read. A code file is refused, or
-- its functions are listed, or one of them is run. `audit list.fip3 list.proof` judges the proof file once the types and
-- the matches of the source are right; `audit list.fip3 list.fip3` judges the source's own bytes, which are no
-- derivation's text.
use Rattle.std.specs.Prelude.{◌≡◌, ◌<◌, ◌≤◌, ℕ, false, List, length, Option, Some, None, Ok, Err}
use Rattle.command_library.specs.fip_language.declared.limits.TheConstants.{MOST_FILE_BYTES}
use Rattle.command_library.specs.fip_language.declared.rule.Rule.TheVariants.{E61, E70, E74, E75}
use Rattle.command_library.specs.command_run.fip_trees.Tree.{Program}
use Rattle.command_library.specs.command_words.Words.{Room, Request, Command, Check, Compile, Verify, Upgrade, Exec, Run}
use Rattle.command_library.specs.command_words.Words.{Eval, Trace, Session, Tasks, Derive}
use Rattle.command_library.specs.command_outcome.Successes.{derived_text}
use Rattle.command_library.specs.command_outcome.declared.failure.Failure.{Failure}
use Rattle.command_library.specs.command_outcome.declared.failure.Failure.TheVariants as F
use Rattle.command_library.specs.command_outcome.declared.failure.Object.TheVariants as O
use Rattle.command_library.specs.code_rules.cell_code.Plain.{PlainCode}
use Rattle.command_library.specs.command_tasks.run_loading.TraceText as T
use Rattle.command_library.specs.command_tasks.run_loading.TraceReading.{IsBadTrace}
use Rattle.command_library.specs.command_tasks.source_report.Report.{bare, IsMatched}
use Rattle.command_library.specs.command_source.Codes.{IsSoundFile, RefusesCode, IsCodeListing, IsUpgraded}
use Rattle.command_library.specs.command_source.Codes.{IsUnspelt, names_one, HasFunction}
use Rattle.command_library.specs.command_source.Derived.{IsDerivedFile, IsUnderived}
use Rattle.command_library.specs.command_source.Judged.{IsEarlyReport, IsProofOf, IsRejectedOf}
use Rattle.command_library.specs.command_source.Roots.{IsListing}
use Rattle.command_library.specs.command_source.Wanted.{Wanted, Refuses, IsReady, of_entry}
use Rattle.command_library.specs.command_eval.EvalAnswer.{Evaluates}
use Rattle.command_library.specs.command_run.CodeRun.{RunsCode}
use Rattle.command_library.specs.command_tasks.TasksAnswer.{IsSetting, TakesTurns}
use Rattle.command_library.specs.session_semantics.Lines.{lines_of}
use Rattle.command_library.specs.session_semantics.Talk.{Setting, Talks, at_first}
use Rattle.command_trace.specs.Replayed.{IsReplayed}
use Rattle.command_trace.specs.RunTrace.{IsLong}
use Rattle.command_answers.specs.Asks.{ReadsInput}
use Rattle.command_answers.specs.CodeOf.{HasLongCode, IsSourceTrace}
use Rattle.command_answers.specs.Exec.{End, Execs}

-- ---- a source that must be accepted

abbrev pub ListsRoots : List ℕ → End → Type 0
ListsRoots source (Ok text) = IsListing source text
ListsRoots source (Err failure) = ⊥

-- the lines of `check`; or E61, of a code of the source that has no file that isn't too long
abbrev pub Compiles : List ℕ → End → Type 0
Compiles source (Ok text) = IsListing source text
Compiles source (Err failure) = HasLongCode source × (failure ≡ F.Refused (bare E61))

-- as `exec` without the gauge, where the trace of a run of a code of the source can be stored; or E75, where it can't be
-- reported, or is too long
pub data TracesTo (source name input : List ℕ) (room : Room) : End → Type 0 where
  Ended : (failure : Failure) → Execs source name input room false (Err failure) →
      TracesTo source name input room (Err failure)
  Traced : (text : List ℕ) (t : T.Trace) → Execs source name input room false (Ok text) →
      IsSourceTrace source name input room t → (IsLong t → ⊥) → TracesTo source name input room (Ok text)
  TooLong : (t : T.Trace) → IsSourceTrace source name input room t → IsLong t →
      TracesTo source name input room (Err (F.Refused (bare E75)))

-- The replies to the lines of the input, one after another: those of a session of the source's program in this room, in
-- which no name holds a value at first. With 6 words `a = rev(Cons(1, Nil), Nil)` and then `?a` are replied to by `ok` and
-- `Cons(1, Nil)`.
abbrev pub Replies : List ℕ → List ℕ → Room → End → Type 0
Replies source input room (Ok text) = (o : Setting) × IsSetting source room o × Talks o at_first (lines_of input) text
Replies source input room (Err failure) = ⊥

-- its derivation has been made; or the text of this has too many bytes
abbrev pub Derives : List ℕ → End → Type 0
Derives source (Ok text) = ((bytes : List ℕ) × IsDerivedFile source bytes) × (text ≡ derived_text)
Derives source (Err failure) = IsUnderived source × (failure ≡ F.Refused (bare E74))

-- How a command ends on a source that has what it requires, and an input that isn't too long.
abbrev pub Does : List ℕ → List ℕ → Command → End → Type 0
Does source input (Check file) e = ListsRoots source e
Does source input (Compile file out) e = Compiles source e
Does source input (Exec r) e = Execs source r.entry input r.room r.gauge e
Does source input (Eval file entry calls frames) e = Evaluates source entry input calls frames e
Does source input (Trace file entry out room) e = TracesTo source entry input room e
Does source input (Session file room) e = Replies source input room e
Does source input (Tasks file seed turns room) e = TakesTurns source input room e
Does source input (Derive file out) e = Derives source e
Does source input c e = ⊥

-- an input that isn't read, or hasn't too many bytes
abbrev pub IsTaken : Command → List ℕ → Type 0
IsTaken c input = ReadsInput c → length input ≤ MOST_FILE_BYTES

pub data OnSource (source input : List ℕ) (c : Command) (w : Wanted) : End → Type 0 where
  Refused : (r : _) → Refuses source w r → OnSource source input c w (Err (F.Refused r))
  LongInput : IsReady source w → ReadsInput c → MOST_FILE_BYTES < length input →
      OnSource source input c w (Err (F.BadInput MOST_FILE_BYTES))
  Ready : (e : End) → IsReady source w → IsTaken c input → Does source input c e → OnSource source input c w e

-- ---- a code file

abbrev pub ListsFunctions : List ℕ → End → Type 0
ListsFunctions bytes (Ok text) = IsCodeListing bytes text
ListsFunctions bytes (Err failure) = ⊥

-- the lines of `verify`; or E61, where no file of the second version that isn't too long encodes the code
abbrev pub Upgrades : List ℕ → End → Type 0
Upgrades bytes (Ok text) = IsCodeListing bytes text × ((again : List ℕ) × IsUpgraded bytes again)
Upgrades bytes (Err failure) =
    ((code : PlainCode) × IsSoundFile bytes code × IsUnspelt code) × (failure ≡ F.Refused (bare E61))

pub data RunsFile (bytes input : List ℕ) (r : Request) : End → Type 0 where
  NoFunction : (code : PlainCode) → IsSoundFile bytes code →
      names_one r.entry code.functions ≡ false →
      RunsFile bytes input r (Err (F.Refused (of_entry E70 r.entry)))
  LongRun : HasFunction bytes r.entry → MOST_FILE_BYTES < length input →
      RunsFile bytes input r (Err (F.BadInput MOST_FILE_BYTES))
  Runs : (e : End) → length input ≤ MOST_FILE_BYTES → RunsCode bytes r.entry input r.room r.gauge e →
      RunsFile bytes input r e

-- how a command ends on the file of a sound code
abbrev pub DoesCode : List ℕ → List ℕ → Command → End → Type 0
DoesCode bytes input (Verify file) e = ListsFunctions bytes e
DoesCode bytes input (Upgrade file out) e = Upgrades bytes e
DoesCode bytes input (Run r) e = RunsFile bytes input r e
DoesCode bytes input c e = ⊥

pub data OnCode (bytes input : List ℕ) (c : Command) : End → Type 0 where
  CodeRefused : (failure : Failure) → RefusesCode bytes failure → OnCode bytes input c (Err failure)
  CodeSound : (e : End) → DoesCode bytes input c e → OnCode bytes input c e

-- ---- `audit` and `replay`

-- A proof file is judged so for a program: it is derived just where these bytes are the text of a derivation of it.
abbrev pub Judges : Program → List ℕ → End → Type 0
Judges p bytes (Ok text) = IsProofOf bytes p × (text ≡ derived_text)
Judges p bytes (Err (F.Refused r)) = IsRejectedOf bytes p r
Judges p bytes (Err failure) = ⊥

-- `audit` on a source and the bytes of the proof file, where this is there. The report is given of a source whose
-- types or matches aren't right, whatever the proof file is. No more rules are checked of one where they are.
pub data Audits (source : List ℕ) : Option (List ℕ) → End → Type 0 where
  Reported : (r : _) (proof : Option (List ℕ)) → IsEarlyReport source r → Audits source proof (Err (F.Refused r))
  NoProof : (p : Program) → IsMatched source p → Audits source None (Err (F.Fault O.Folder))
  Judged : (p : Program) (bytes : List ℕ) (e : End) → IsMatched source p → Judges p bytes e →
      Audits source (Some bytes) e

-- the lines of the cells of a trace after so many steps; or the offset at which the bytes are bad
abbrev pub Replays : List ℕ → ℕ → End → Type 0
Replays bytes step (Ok text) = IsReplayed bytes step text
Replays bytes step (Err (F.BadTrace at)) = IsBadTrace bytes at
Replays bytes step (Err failure) = ⊥
