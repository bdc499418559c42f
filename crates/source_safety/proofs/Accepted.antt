-- The program of an accepted source passes all checks, so its fip instances run in place.
use Rattle.std.proofs.Common.{◌≡◌, ◌≤◌, ℕ, List, Some, slice_get, subst}
use Rattle.in_place_safety.specs.fip_base.declared.plain.Stack.{Stack}
use Rattle.in_place_safety.specs.fip_language.declared.FunKind.TheVariants.{Fip}
use Rattle.in_place_safety.specs.fip_language.Table.{HaveTypes}
use Rattle.in_place_safety.specs.fip_language.Values.{Values}
use Rattle.in_place_safety.specs.fip_trees.declared.groups.Member.{Member}
use Rattle.in_place_safety.specs.fip_trees.Tree.{Instance, Program}
use Rattle.in_place_safety.specs.instance_semantics.Meaning.{flat_meaning}
use Rattle.in_place_safety.specs.tail_groups.Members.{AreMembers}
use Rattle.in_place_safety.proofs.type_safety.WellTyped.{meaning_sound}
use Rattle.in_place_safety.specs.type_safety.Exhaustive.{AreExhaustive}
use Rattle.in_place_safety.specs.type_safety.Soundness.{IsSoundAnswer, parameter_types, IsWellTyped}
use Rattle.in_place_safety.proofs.Checked.{runs_in_place, has_stack}
use Rattle.in_place_safety.specs.InPlace.{RunsInPlace, IsChecked}
use Rattle.specialisation_correctness.proofs.source_report.Sizing.{typed_filled, typed_sized}
use Rattle.specialisation_correctness.specs.source_report.Report.{IsMatched, IsCredited, IsAccepted}
use Rattle.source_safety.proofs.Covered.{covered_exhaustive}
use Rattle.source_safety.proofs.Formed.{typed_is_formed}

matched_exhaustive : (source : List ℕ) (p : Program) → IsMatched source p → AreExhaustive p.types p.instances
matched_exhaustive source p h =
    covered_exhaustive p.types p.instances h.right.covered

pub matched_well_typed : (source : List ℕ) (p : Program) → IsMatched source p → IsWellTyped p
matched_well_typed source p h =
    record {
      formed = typed_is_formed source p h.typed;
      typed = typed_filled source p h.typed;
      exhaustive = matched_exhaustive source p h;
    }

pub matched_sound : (source : List ℕ) (p : Program) (i : ℕ) (f : Instance) (vs : Values) (n d : ℕ) → IsMatched source p → slice_get p.instances i ≡ Some f → HaveTypes p.types (parameter_types f) vs → IsSoundAnswer p.types f.results (flat_meaning p i vs n d).answer
matched_sound source p i f vs n d h e typed = meaning_sound p i f vs n d (matched_well_typed source p h) e typed

-- what passes the checks up to that of credits, with what is found of its calls
pub credited_checked : (source : List ℕ) (p : Program) (ms : List Member) → IsCredited source p → AreMembers p.instances ms → IsChecked p ms
credited_checked source p ms h members =
    record {
      typed = matched_well_typed source p h.owned.matched;
      sized = typed_sized source p h.owned.matched.typed;
      owned = record { owned = h.owned.unbroken; credited = h.unbroken };
      members = members;
    }

pub accepted_in_place : (source : List ℕ) (p : Program) (ms : List Member) (i : ℕ) (f : Instance) (m : Member) (s : Stack) (vs : Values) (n d : ℕ) → IsAccepted source p → AreMembers p.instances ms → slice_get p.instances i ≡ Some f → f.kind ≡ Fip → slice_get ms i ≡ Some m → m.stack ≡ Some s → HaveTypes p.types (parameter_types f) vs → s.frames ≤ d → RunsInPlace p.types f vs s d (flat_meaning p i vs n d)
accepted_in_place source p ms i f m s vs n d h members e k there has typed l =
    runs_in_place p ms i f m s vs n d (credited_checked source p ms h.tailed.credited members) e k there has typed l

pub accepted_stack : (source : List ℕ) (p : Program) (ms : List Member) (i : ℕ) (f : Instance) → IsAccepted source p → AreMembers p.instances ms → slice_get p.instances i ≡ Some f → f.kind ≡ Fip → (m : Member) × (s : Stack) × (slice_get ms i ≡ Some m) × (m.stack ≡ Some s)
accepted_stack source p ms i f h members e k = has_stack p ms i f (credited_checked source p ms h.tailed.credited members) e k
