-- The text of the derivation that is made for an accepted source: an accepted source's program is what the making
-- requires for, and keeps the limits within which a text is read.
use Rattle.std.proofs.Common.{◌≡◌, ◌∙◌, ◌≤◌, ◌<◌, ℕ, List, length, refl, sym, ap, subst, inl, inr, arith}
use Rattle.std.specs.Prelude.{Result, Ok, Err, IfErr}
use Rattle.fip_base.specs.declared.refusal.Refusal.{Refusal}
use Rattle.fip_language.specs.declared.rule.Rule.TheVariants.{E74}
use Rattle.fip_trees.specs.declared.needs.Need.{Need}
use Rattle.fip_trees.specs.Tree.{Program}
use Rattle.fip_proof.specs.credit_check.Tallies.{all_needs}
use Rattle.command_outcome.specs.declared.failure.Failure.{Failure}
use Rattle.command_outcome.specs.declared.failure.Failure.TheVariants as F
use Rattle.fip_proof.specs.Ready.{IsReady as IsReadyToDerive}
use Rattle.fip_proof.specs.derivation_text.ProofText.{IsProofText, lines_text}
use Rattle.program_front.specs.source_report.Report.{bare, IsAccepted}
use Rattle.program_front.proofs.source_report.Once.{accepted_once}
use Rattle.machine_correctness.proofs.compiler_correctness.derivation_correctness.Whole.{ready, is_read, derived, lean}
use Rattle.command_source.specs.Derived.{made, IsDerivedFile, IsUnderived, KeepsFromDerive}
use Rattle.command_source.specs.Wanted.{Lawful, IsReady, IsRefusedBy}

pub derived_file : (source file : List ℕ) (p : Program) (needs : List (List Need)) → IsAccepted source p → needs ≡ all_needs p p.instances → (IsReadyToDerive p needs → file ≡ lines_text (made p)) → length file ≤ 16777216 → IsDerivedFile source file
derived_file source file p needs accepted all text short =
    record {
      program = p;
      accepted = accepted;
      text = subst (λ bytes. IsProofText bytes (made p)) (sym (text (ready source p needs accepted all))) (is_read source p accepted);
      derives = derived source p accepted;
      lean = lean source p accepted;
      short = short;
    }

pub underived : (source : List ℕ) (p : Program) (needs : List (List Need)) → IsAccepted source p → needs ≡ all_needs p p.instances → (IsReadyToDerive p needs → 16777216 < length (lines_text (made p))) → IsUnderived source
underived source p needs accepted all long =
    record { program = p; accepted = accepted; long = long (ready source p needs accepted all) }

-- what keeps the derivation of an accepted source from being stored
pub underived_keeps : (source : List ℕ) (f : Failure) → ((r : Refusal) → ◌≡◌ {A = Failure} f (F.Refused r) → IsUnderived source) → IsRefusedBy (λ r. r ≡ bare E74) f → KeepsFromDerive source f
underived_keeps source (F.Refused r) long h = inr (long r refl, h)
underived_keeps source F.NoMemory long h = inl tt
underived_keeps source f long h = absurd h

pub underived_kept : {T : Type 0} (source : List ℕ) (o : Result T Failure) → ((r : Refusal) → o ≡ Err (F.Refused r) → IsUnderived source) → IfErr o (IsRefusedBy (λ r. r ≡ bare E74)) → IfErr o (KeepsFromDerive source)
underived_kept source (Ok t) long h = tt
underived_kept source (Err f) long h = underived_keeps source f (λ r e. long r (ap Err e)) h

-- ---- once

pub derived_ready : (source file : List ℕ) → IsDerivedFile source file → IsReady source Lawful
derived_ready source file h = record { program = h.program; accepted = h.accepted; has = tt }

pub underived_ready : (source : List ℕ) → IsUnderived source → IsReady source Lawful
underived_ready source h = record { program = h.program; accepted = h.accepted; has = tt }

pub derived_or_underived : (source file : List ℕ) → IsDerivedFile source file → IsUnderived source → ⊥
derived_or_underived source file h k =
    let same = accepted_once source h.program k.program h.accepted k.accepted in
    let size : length file ≡ length (lines_text (made k.program)) = ap length (h.text.1 ∙ ap (λ p. lines_text (made p)) same) in
    let short = h.short in
    let long = k.long in
    omega (arith, size, short, long)
