-- The program of an accepted source has what the making of derivations requires, so what is made is a derivation of it.
use Rattle.std.proofs.Common.{◌≡◌, ◌≤◌, ◌+◌, ℕ, suc, true, List, [], ◌∷◌, length, Some, slice_get, refl, sym, subst, arith}
use Rattle.source_report.specs.fip_language.declared.limits.TheConstants.{MOST_INSTANCES}
use Rattle.source_report.specs.fip_trees.SoundProgram.{IsSoundProgram}
use Rattle.source_report.specs.fip_trees.Tree.{Instance, Program}
use Rattle.source_report.specs.fip_trees.declared.needs.Need.{Need}
use Rattle.fip_proof.specs.credit_check.Tallies.{all_needs}
use Rattle.fip_proof.specs.Ready.{IsReady}
use Rattle.fip_proof.specs.fip_rules.World.{is_ruled}
use Rattle.source_report.specs.type_check.Typing.{IsFilled}
use Rattle.source_report.proofs.static_params.TypeRows.{there_among}
use Rattle.source_report.proofs.static_params.Sounding.{flat_is_sound}
use Rattle.fip_proof.proofs.type_check.Filling.{stays_sound}
use Rattle.source_report.specs.ownership_agreement.Agreement.{AreSized, IsAccepted as BreaksNoRule}
use Rattle.fip_proof.specs.derivation_check.Scopes.{within_block}
use Rattle.fip_proof.specs.derivation_check.Accepted.{IsDerivation}
use Rattle.derivation_text.specs.ProofText.{lines_text, IsProofText}
use Rattle.fip_proof.specs.derivation_making.Made.{made_entries}
use Rattle.fip_proof.specs.derivation_making.Numbered.{IsNumbered, AllNumbered}
use Rattle.fip_proof.specs.derivation_making.Weakening.{AllLean}
use Rattle.fip_proof.proofs.derivation_making.Programs.{program_derived, program_lean}
use Rattle.fip_proof.specs.derivation_agreement.Limits.{KeepsLimits}
use Rattle.fip_proof.proofs.derivation_agreement.TextWhole.{made_is_read}
use Rattle.source_report.specs.Report.{IsTyped, IsAccepted}
use Rattle.source_report.specs.WellFormed.{IsKnownInstance}
use Rattle.source_report.proofs.Ready.{typed_formed}
use Rattle.source_report.proofs.Sizing.{typed_filled, typed_sized}
use Rattle.source_report.specs.Order.{IsOrdered}
use Rattle.source_report.proofs.TypedOrder.{typed_in_order}
use Rattle.derivation_correctness.proofs.Counted.{from_numbered, block_numbered}
use Rattle.derivation_correctness.proofs.Few.{few_binders, few_registers}

instance_numbered : (p : Program) (d : Instance) → IsOrdered d → IsKnownInstance p d → length d.params + within_block d.body ≤ 4294967296 → IsNumbered p d
instance_numbered p d h k few =
    let same = h.as_many in
    record {
      as_many = h.as_many;
      parameters = from_numbered 0 (length d.params) 0 d.binders h.parameters (omega (arith, same, few));
      body = block_numbered p (length d.params) h.next (length d.params) d.body h.body k.body few;
    }

all_by : (p : Program) (ds : List Instance) → ((j : ℕ) (d : Instance) → slice_get ds j ≡ Some d → is_ruled d.kind ≡ true → IsNumbered p d) → AllNumbered p ds
all_by p [] h = tt
all_by p (d ∷ ds) h = (h 0 d refl, all_by p ds (λ j e at. h (suc j) e at))

typed_of : (source : List ℕ) (p : Program) → IsAccepted source p → IsTyped source p
typed_of source p h = h.tailed.credited.owned.matched.typed

pub numbered : (source : List ℕ) (p : Program) → IsAccepted source p → AllNumbered p p.instances
numbered source p h =
    let typed = typed_of source p h in
    all_by p p.instances (λ j d at ruled.
    let here = there_among p.instances j d at in
    instance_numbered p d (typed_in_order source p typed d here) ((typed_formed source p typed).instances d here) (few_binders source p h j d at ruled))

pub is_filled : (source : List ℕ) (p : Program) → IsAccepted source p → IsFilled p
is_filled source p h = typed_filled source p (typed_of source p h)

pub are_sized : (source : List ℕ) (p : Program) → IsAccepted source p → AreSized p p.instances
are_sized source p h = typed_sized source p (typed_of source p h)

pub unbroken : (source : List ℕ) (p : Program) → IsAccepted source p → BreaksNoRule p
unbroken source p h = record { owned = h.tailed.credited.owned.unbroken; credited = h.tailed.credited.unbroken }

pub derived : (source : List ℕ) (p : Program) → IsAccepted source p → IsDerivation p (made_entries p 0 p.instances)
derived source p h =
    program_derived p (is_filled source p h) (numbered source p h) (are_sized source p h) (unbroken source p h)

pub lean : (source : List ℕ) (p : Program) → IsAccepted source p → AllLean (made_entries p 0 p.instances)
lean source p h = program_lean p (are_sized source p h) (unbroken source p h)

pub ready : (source : List ℕ) (p : Program) (needs : List (List Need)) → IsAccepted source p → needs ≡ all_needs p p.instances → IsReady p needs
ready source p needs h e = record {
  needs = e;
  filled = is_filled source p h;
  numbered = numbered source p h;
  sized = are_sized source p h;
  accepted = unbroken source p h;
}

-- ---- the text of its derivation

-- it has few instances
few_instances : (source : List ℕ) (p : Program) → IsTyped source p → length p.instances ≤ MOST_INSTANCES
few_instances source p h =
    let f = h.flat in
    let sound : IsSoundProgram h.untyped = subst IsSoundProgram (sym f.is) (flat_is_sound f.core f.declared.unbroken f.declared.valued f.numbers f.few) in
    let stays : IsSoundProgram p = subst IsSoundProgram (sym h.is) (stays_sound h.untyped sound) in
    stays.few

pub keeps_limits : (source : List ℕ) (p : Program) → IsAccepted source p → KeepsLimits p
keeps_limits source p h = record {
  instances = few_instances source p (typed_of source p h);
  registers = λ i d at r. few_registers source p h i d at r;
}

pub is_read : (source : List ℕ) (p : Program) → IsAccepted source p → IsProofText (lines_text (made_entries p 0 p.instances)) (made_entries p 0 p.instances)
is_read source p h = made_is_read p (is_filled source p h) (numbered source p h) (are_sized source p h) (unbroken source p h) (keeps_limits source p h)
