-- What a host finds after a command's result, or what kept it from one, was handed to its sinks: the status, and what
-- out and err hold more. A sink that isn't written to stays as it is.
use Rattle.std.specs.Prelude.{◌≡◌, ◌⊎◌, ℕ, List, Option, Result, Ok, Err}
use Rattle.std.specs.Io.KnownBytes.{Appends}
use Rattle.std.specs.declared.vec.Vec.{Vec}
use Rattle.std.specs.declared.alloc.Global.{Global}
use Rattle.fip_outside.specs.Faults.{Rose}
use Rattle.fip_outside.specs.Takes.{WritesPrefix}
use Rattle.command_outcome.specs.Failures.{failure_status, failure_text, fault_text}
use Rattle.command_outcome.specs.Texts.{no_memory_text, out_fault_text, err_fault_text}
use Rattle.command_outcome.specs.declared.failure.Failure.{Failure}
use Rattle.command_outcome.specs.declared.failure.Failure.TheVariants as F

-- what a command ends in: a text for out, or what keeps it from one
abbrev pub Outcome : Type 0
Outcome = Result (Vec ℕ Global) Failure

-- a sink: the bytes that were written, where they are reported, and the count of faults
pub record Seen : Type 0 where
  pub written : Option (List ℕ)
  pub faults : ℕ

abbrev pub seen : Option (List ℕ) → ℕ → Seen
seen written faults = record { written = written; faults = faults }

-- A text was tried once: it is on the sink, or the sink failed after a front part of it.
abbrev pub Tried : Seen → Seen → List ℕ → Type 0
Tried old new text = Appends old.written new.written text
    ⊎ (Rose old.faults new.faults × WritesPrefix old.written new.written text)

-- The text is on a sink, and the status is this one; or the sink failed after a front part of it, its own fault
-- was then tried to be reported once, and the status is 9.
abbrev pub Reported : Seen → Seen → ℕ → List ℕ → ℕ → Type 0
Reported old new status text s =
    ((s ≡ status) × Appends old.written new.written text)
    ⊎ ((s ≡ 9) × Rose old.faults new.faults × ((between : Seen) × Rose old.faults between.faults
    × WritesPrefix old.written between.written text × Tried between new err_fault_text))

-- a failure's own text; or that of running out of memory, where there was none for the text
abbrev pub ReportedFailure : Seen → Seen → Failure → ℕ → Type 0
ReportedFailure old new (F.Fault object) s = (s ≡ 9) × Tried old new (fault_text object)
ReportedFailure old new failure s = Reported old new (failure_status failure) (failure_text failure) s
    ⊎ Reported old new 10 no_memory_text s

-- A result is on out; or out failed after a front part of it, which was tried to be reported on err.
abbrev pub Delivered : Seen → Seen → Seen → Seen → Outcome → ℕ → Type 0
Delivered out out' err err' (Ok text) s =
    ((s ≡ 0) × Appends out.written out'.written text.items × (err' ≡ err))
    ⊎ ((s ≡ 9) × Rose out.faults out'.faults × WritesPrefix out.written out'.written text.items
    × Tried err err' out_fault_text)
Delivered out out' err err' (Err failure) s = (out' ≡ out) × ReportedFailure err err' failure s
