-- What a phase says is what its failure reports.
use Rattle.std.proofs.Common.{◌≡◌, ℕ, List, inl, refl, sym, subst}
use Rattle.std.specs.Prelude.{Result, Ok, Err, IfErr}
use Rattle.code_verify.specs.code_rules.Breaks.{IsSound}
use Rattle.cell_code.specs.Plain.{PlainCode}
use Rattle.command_source.specs.Codes.{IsLeastOf}
use Rattle.command_source.specs.Wanted.{Wanted, IsRefusedBy, IsReport, KeepsFrom}
use Rattle.command_outcome.specs.declared.failure.Failure.{Failure}
use Rattle.command_outcome.specs.declared.failure.Failure.TheVariants as F

-- the report keeps the source from whatever is required
pub report_keeps : (source : List ℕ) (w : Wanted) (failure : Failure) → IsRefusedBy (IsReport source) failure → KeepsFrom source w failure
report_keeps source w (F.Refused r) h = inl h
report_keeps source w F.NoMemory h = tt
report_keeps source w failure h = absurd h

-- of sound code only that memory ran out can be reported
pub sound_wants : (c : PlainCode) (failure : Failure) → IsSound c → IsLeastOf c failure → ◌≡◌ {A = Failure} failure F.NoMemory
sound_wants c (F.Unsound function at rule) sound h = absurd (sound function at rule h.breaks)
sound_wants c F.NoMemory sound h = refl
sound_wants c failure sound h = absurd h

-- running out of memory keeps a source from whatever is required
pub out_of_memory_keeps : {T : Type 0} (source : List ℕ) (w : Wanted) (o : Result T Failure) → IfErr o (λ f. f ≡ F.NoMemory) → IfErr o (KeepsFrom source w)
out_of_memory_keeps source w (Ok t) h = tt
out_of_memory_keeps source w (Err f) h = subst (KeepsFrom source w) (sym h) tt
