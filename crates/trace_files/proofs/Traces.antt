-- What is read of bytes is a trace.
use Rattle.std.proofs.Common.{ℕ, suc, ◌<◌, List, [], ◌∷◌, get_or}
use Rattle.std.specs.Prelude.{Result, Ok, Err, IfOk}
use Rattle.cell_trace.specs.declared.error.ReadTraceError.{ReadTraceError}
use Rattle.cell_trace.specs.declared.trace.Trace.{Trace}
use Rattle.run_loading.specs.TraceText.{IsTrace}
use Rattle.run_loading.specs.TraceReading.{read_trace, AreBytes}
use Rattle.run_loading.proofs.Inverse.{read_is_a_trace}
use Rattle.trace_files.specs.Plain.{plain_trace}
use Rattle.trace_files.specs.Reading.{ReadsAll}

pub bytes_small : (xs : List ℕ) → ((i : ℕ) → get_or xs i 0 < 256) → AreBytes xs
bytes_small [] h = tt
bytes_small (x ∷ xs) h = (h 0, bytes_small xs (λ i. h (suc i)))

pub is_trace : (bytes : List ℕ) (o : Result Trace ReadTraceError) → AreBytes bytes → ReadsAll plain_trace o (read_trace bytes) → IfOk o (λ t. IsTrace (plain_trace t))
is_trace bytes (Ok t) small h = read_is_a_trace bytes (plain_trace t) h.0 small h.1
is_trace bytes (Err e) small h = tt
