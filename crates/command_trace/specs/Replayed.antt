-- What `replay` ends in on the bytes of a file: the lines of the cells of its trace, as they are after so many steps;
-- or the offset with which it is no trace's.
--
-- On no bytes it is reported as a bad trace at 0, on 16,777,217 bytes as one at 16777216.
use Rattle.std.specs.Prelude.{◌≡◌, ℕ, List}
use Rattle.command_outcome.specs.declared.failure.Failure.{Failure}
use Rattle.command_outcome.specs.declared.failure.Failure.TheVariants as F
use Rattle.trace_files.specs.run_loading.TraceText.{Trace}
use Rattle.trace_files.specs.run_loading.TraceReading.{IsBadTrace, IsTraceFile}
use Rattle.trace_files.specs.run_loading.Replaying.{replayed}

abbrev pub IsReplayed : List ℕ → ℕ → List ℕ → Type 0
IsReplayed bytes step text = (t : Trace) × IsTraceFile bytes t × (text ≡ replayed t step)

-- What is said in place of the lines, or that memory ran out.
abbrev pub KeepsFromReplay : List ℕ → Failure → Type 0
KeepsFromReplay bytes (F.BadTrace at) = IsBadTrace bytes at
KeepsFromReplay bytes F.NoMemory = Unit {0}
KeepsFromReplay bytes failure = ⊥
