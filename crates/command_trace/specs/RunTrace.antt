-- The trace of the run of a code on an input, where it is too long to be stored, and which code a call of `trace` ran.
--
-- The trace of `rev` on Cons(1, Nil) and Nil reports the one cell, the step in which it gets Cons(1, Nil) once more, and the
-- seven steps of the run. It isn't long: its file has fewer than 16,777,216 bytes.
use Rattle.std.specs.Prelude.{◌≡◌, ◌⊎◌, ◌<◌, ◌≤◌, ◌^◌, ℕ, List, length, Option, Some, None}
use Rattle.fip_language.specs.declared.limits.TheConstants.{MOST_FILE_BYTES}
use Rattle.command_words.specs.Words.{Room}
use Rattle.trace_files.specs.machine_semantics.Runs.{Value}
use Rattle.code_verify.specs.cell_code.Plain.{PlainCode}
use Rattle.trace_files.specs.run_loading.TraceText.{Trace, trace_text}
use Rattle.code_verify.specs.Checked.{Checked}
use Rattle.command_run.specs.declared.running.Left.{Left}
use Rattle.command_run.specs.LoadedRun.{InputRun, trace_of_run}

-- The run of function n on the input, from where its values are loaded, gives words, and this is its trace.
pub record IsRunTrace (c : PlainCode) (n : ℕ) (input : List ℕ) (room : Room) (t : Trace) : Type 0 where
  pub by : InputRun c n input room
  pub words : List ℕ
  pub gives : by.run.end ≡ Value words
  pub is : t ≡ trace_of_run by.run

-- its file can't encode it, or is too long
abbrev pub IsLong : Trace → Type 0
IsLong t = (MOST_FILE_BYTES < length (trace_text t)) ⊎ ((4294967295 < length t.events) ⊎ (2 ^ 64 ≤ t.steps))

-- The code of a call: that of what is left, or else the one that is handed out by itself.
abbrev pub code_of : Option Left → Option Checked → Option Checked
code_of None made = made
code_of (Some l) made = Some l.verified
