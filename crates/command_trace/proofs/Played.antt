-- From what was read and played again to what `replay` ends in.
use Rattle.std.proofs.Common.{◌≡◌, ◌≤◌, ◌<◌, ℕ, List, [], length, inl, inr, refl}
use Rattle.trace_files.specs.run_loading.TraceText.{Trace, IsTrace}
use Rattle.trace_files.specs.run_loading.TraceReading.{Got, Bad, read_trace, IsBadTrace}
use Rattle.trace_files.specs.run_loading.Replaying.{replayed}
use Rattle.command_trace.specs.Replayed.{IsReplayed}

pub played : (bytes text : List ℕ) (t : Trace) (step : ℕ) → length bytes ≤ 16777216 → (end : ℕ) × (read_trace bytes ≡ Got t end []) → IsTrace t → (IsTrace t → text ≡ replayed t step) → IsReplayed bytes step text
played bytes text t step short read is shown = (t, record { short = short; end = read.0; reads = read.1 }, shown is)

pub long_bad : (bytes : List ℕ) → 16777216 < length bytes → IsBadTrace bytes 16777216
long_bad bytes more = inl (more, refl)

pub bad_at : (bytes : List ℕ) (at : ℕ) → length bytes ≤ 16777216 → read_trace bytes ≡ Bad at → IsBadTrace bytes at
bad_at bytes at short bad = inr (short, bad)
