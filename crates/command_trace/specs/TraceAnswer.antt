-- It serves the proof of `trace`: what it ends in on a source that has the entry, once the input is read, by the run of
-- a code of the source.
--
-- It ends as `exec` without the gauge does: with the lines of the values that the source means, or with what keeps it
-- from them. With values it stores the file of a trace: that of the run of a code of the source on the input, from the
-- state in which its values are loaded, which gives words. Where just this trace is too long (`RunTrace`) E75 is
-- reported instead, and nothing is stored. A store that is too small is reported before.
use Rattle.std.specs.Prelude.{◌≡◌, ℕ, false, List, Result, Ok, Err}
use Rattle.fip_language.specs.declared.rule.Rule.TheVariants.{E75}
use Rattle.command_words.specs.Words.{Room}
use Rattle.command_outcome.specs.declared.failure.Failure.{Failure}
use Rattle.command_outcome.specs.declared.failure.Failure.TheVariants as F
use Rattle.code_verify.specs.cell_code.Plain.{PlainCode}
use Rattle.trace_files.specs.run_loading.TraceText.{Trace, trace_text}
use Rattle.command_run.specs.command_source.declared.files.Compiled.{Compiled}
use Rattle.command_run.specs.source_report.Report.{bare}
use Rattle.command_run.specs.ExecAnswer.{Coded, Execs}
pub use Rattle.command_trace.specs.RunTrace.{IsRunTrace, IsLong, code_of}

-- the same of a code of the source, whose function has the entry's name
pub record IsTraceOf (source name input : List ℕ) (room : Room) (t : Trace) : Type 0 where
  pub code : Coded source name
  pub traced : IsRunTrace code.code code.number input room t

-- the file that is stored, and the text that is printed after it
pub record Kept : Type 0 where
  pub file : List ℕ
  pub text : List ℕ

pub data Traces (source name input : List ℕ) (room : Room) : Result Kept Failure → Type 0 where
  Ended : (failure : Failure) → Execs source name input room false (Err failure) →
      Traces source name input room (Err failure)
  Stored : (text : List ℕ) (t : Trace) → Execs source name input room false (Ok text) →
      IsTraceOf source name input room t → (IsLong t → ⊥) →
      Traces source name input room (Ok (record { file = trace_text t; text = text }))
  TooLong : (t : Trace) → IsTraceOf source name input room t → IsLong t →
      Traces source name input room (Err (F.Refused (bare E75)))

-- What just this code's run ends in: the file is that of its trace, which isn't too long, or E75 is reported of a trace
-- that is.
abbrev pub TracesRun : PlainCode → ℕ → List ℕ → Room → Result Compiled Failure → Type 0
TracesRun c n input room (Ok kept) =
    (t : Trace) × IsRunTrace c n input room t × (IsLong t → ⊥) × (kept.file.items ≡ trace_text t)
TracesRun c n input room (Err (F.Refused r)) = (t : Trace) × IsRunTrace c n input room t × IsLong t
TracesRun c n input room (Err failure) = Unit {0}

-- This is said of a result, whatever memory its bytes lie in; or memory runs out.
abbrev pub KeptOrNoMemory : (Result Kept Failure → Type 0) → Result Compiled Failure → Type 0
KeptOrNoMemory Is (Ok c) = Is (Ok (record { file = c.file.items; text = c.text.items }))
KeptOrNoMemory Is (Err F.NoMemory) = Unit {0}
KeptOrNoMemory Is (Err failure) = Is (Err failure)
