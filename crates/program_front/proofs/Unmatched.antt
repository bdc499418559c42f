-- A report of the phases before those on ownership excludes that the types and the matches of its source are right.
-- Idea: what a phase speaks of is one by the source, so a source that is right has passed the phase of the report with
-- the very program that has the violation.
use Rattle.std.proofs.Common.{◌≡◌, ◌<◌, inl, inr, ℕ, List, [], length, refl, sym, ap, ap₂, ◌∙◌, subst, arith}
use Rattle.std.specs.Prelude.{Result, IfErr}
use Rattle.fip_language.specs.declared.Place.{Place}
use Rattle.fip_language.specs.declared.limits.TheConstants.{MOST_SOURCE_BYTES, MOST_INSTANCES}
use Rattle.fip_language.specs.declared.rule.Rule.{Rule}
use Rattle.fip_language.specs.Core.{Core}
use Rattle.fip_language.specs.CoreForm.{core_form}
use Rattle.fip_base.specs.CoreView as V
use Rattle.fip_base.specs.declared.core_form.Core as Memory
use Rattle.fip_base.specs.declared.refusal.Refusal.{Refusal}
use Rattle.fip_base.specs.declared.refusal.PhaseError.{PhaseError}
use Rattle.fip_base.specs.declared.refusal.PhaseError.TheVariants.{Refused, NoMemory}
use Rattle.source_report.specs.fip_grammar.Limits.{IsMisspelt}
use Rattle.source_report.proofs.fip_grammar.Least.{spelt_once, spelt_or_misspelt}
use Rattle.fip_trees.specs.declared.decls.Decls.{Decls}
use Rattle.fip_trees.specs.declared.least.Violation.{Violation}
use Rattle.fip_trees.specs.declared.program.Instance.{Instance}
use Rattle.fip_trees.specs.declared.program.Program as Typed
use Rattle.fip_trees.specs.Least.{In, IsLeast}
use Rattle.fip_trees.specs.Tree.{Program}
use Rattle.fip_trees.specs.TreeView.{program}
use Rattle.data_types.specs.Answers as Declaring
use Rattle.data_types.specs.DeclaredProgram.{AreDeclared}
use Rattle.static_params.specs.Answers as Statics
use Rattle.source_report.specs.reached_instances.closed_types.Closed.{Closed}
use Rattle.static_params.specs.FlatProgram.{Numbers, flat_program}
use Rattle.static_params.specs.FlatSource.{flat_source}
use Rattle.source_report.specs.reached_instances.closed_types.Instances.{roots, calls_from, all_faults, passed_to, ArePassed}
use Rattle.source_report.specs.reached_instances.closed_types.Numbering.{AreMore}
use Rattle.source_report.specs.reached_instances.closed_types.Source.{Source}
use Rattle.source_report.specs.reached_instances.SourceView as s
use Rattle.source_report.specs.reached_instances.closed_types.TypeInstances.{type_roots, parts_of, AreTypes}
use Rattle.static_params.proofs.CoreSources.{source_is}
use Rattle.type_check.proofs.Exact.{typed_exactly}
use Rattle.type_check.specs.Answers as Types
use Rattle.type_check.specs.Faults.{type_faults}
use Rattle.match_cover.specs.Answers as Covering
use Rattle.match_cover.specs.Coverage.{CoverFault}
use Rattle.match_cover.specs.Shapes.{shape_faults}
use Rattle.source_report.specs.Report.{at, IsParsed, IsFlat, IsTyped, IsMatched}
use Rattle.source_report.specs.InMemory.{AreOf}
use Rattle.source_report.specs.MatchRules.{shape_faults as plain_shapes, CoverFault as PlainFault}
use Rattle.source_report.proofs.Memory.{shapes_are, fault_forth}
use Rattle.source_report.proofs.Numbered.{numbered_once, not_more}
use Rattle.source_report.proofs.Once.{none_in, parsed_once, flat_once, typed_once, statics_broken}
use Rattle.source_report.proofs.Ready.{typed_ready}
use Rattle.source_report.proofs.Steps.{IsChecked, if_err}
use Rattle.program_front.specs.Unmatched.{IsUnmatched}

-- ---- the phases

pub long_unmatched : (source : List ℕ) (r : Refusal) → MOST_SOURCE_BYTES < length source → IsUnmatched source (Refused r)
long_unmatched source r more = λ p h. let short = h.typed.flat.declared.parsed.short in omega (arith, more, short)

pub misspelt_unmatched : (source : List ℕ) (r : Refusal) → ((rule : Rule) × (p : Place) × IsMisspelt source rule p × (r ≡ at rule p)) → IsUnmatched source (Refused r)
misspelt_unmatched source r k = λ p h. let parsed = h.typed.flat.declared.parsed in spelt_or_misspelt source parsed.tree k.0 k.1 parsed.spelt k.2

pub declarations_unmatched : (source : List ℕ) (core : Core) (e : PhaseError) → IsParsed source core → Declaring.Says core e → IsUnmatched source e
declarations_unmatched source core (Refused r) parsed k = λ p h.
    let d = h.typed.flat.declared in
    let same = parsed_once source core h.typed.flat.core parsed d.parsed in
    d.unbroken k.0 (subst (λ c. Declaring.Violates c k.0) same k.1.violated)
declarations_unmatched source core NoMemory parsed k = tt

statics_unmatched : (source : List ℕ) (core : Core) (e : PhaseError) → IsParsed source core → Statics.Says (flat_source core) e → IsUnmatched source e
statics_unmatched source core (Refused r) parsed k = λ p h.
    let f = h.typed.flat in
    let same = parsed_once source core f.core parsed f.declared.parsed in
    statics_broken (flat_source f.core) k.0 f.numbers (subst (λ c. Statics.Names (flat_source c) k.0) same k.1) f.few f.unbroken
statics_unmatched source core NoMemory parsed k = tt

same_source : (core : Memory.Core) (decls : Decls) → AreDeclared core decls → s.source_of core decls ≡ flat_source (V.core core)
same_source core decls d = source_is core decls d.names d.types d.constructors d.numbered

pub flat_unmatched : (source : List ℕ) (core : Memory.Core) (decls : Decls) (r : Result Typed.Program PhaseError) → AreDeclared core decls → IsParsed source (V.core core) → IfErr r (λ e. Statics.Says (s.source_of core decls) e) → IfErr r (λ e. IsUnmatched source e)
flat_unmatched source core decls r d p h =
    if_err r (λ e. Statics.Says (s.source_of core decls) e) (λ e. IsUnmatched source e)
    (λ e a. statics_unmatched source (V.core core) e p (subst (λ s. Statics.Says s e) (same_source core decls d) a)) h

pub types_unmatched : (source : List ℕ) (p : Program) (e : PhaseError) → IsFlat source p → Types.Says p e → IsUnmatched source e
types_unmatched source p (Refused r) flat k = λ q h.
    let same = flat_once source p h.typed.untyped flat h.typed.flat in
    none_in (type_faults p) k.0 (ap type_faults same ∙ h.typed.typed) k.1
types_unmatched source p NoMemory flat k = tt

-- a typed program whose matches have violations
module _ (source : List ℕ) (p : Program) (ds : List Instance) (typed : IsTyped source p) (of' : AreOf p ds) where
  shapes_unmatched : (v : Violation) → IsLeast (shape_faults 0 ds) v → (q : Program) → IsMatched source q → ⊥
  shapes_unmatched v least q h =
      let same = typed_once source p q typed h.typed in
      none_in (shape_faults 0 ds) v (shapes_are 0 ds ∙ ap (plain_shapes 0) of' ∙ ap (λ (p : Program). plain_shapes 0 p.instances) same ∙ h.shapes) least

  coverage_unmatched : (v : Violation) → CoverFault p.types 0 ds v → (q : Program) → IsMatched source q → ⊥
  coverage_unmatched v fault q h =
      let same = typed_once source p q typed h.typed in
      h.right.unbroken v (subst (λ (p : Program). PlainFault p.types 0 p.instances v) same (subst (λ is. PlainFault p.types 0 is v) of' (fault_forth p.types 0 ds v fault)))

pub cover_unmatched : (source : List ℕ) (flat typed : Typed.Program) (e : PhaseError) → IsChecked flat typed → IsFlat source (program flat) → Covering.Says typed.types typed.instances.items e → IsUnmatched source e
cover_unmatched source flat typed e c h k = by e k
  where
    is_typed : IsTyped source (program typed)
    is_typed = record { untyped = program flat; flat = h; typed = (typed_exactly (program flat)).0 c.typed; is = c.tree }

    by : (e : PhaseError) → Covering.Says typed.types typed.instances.items e → IsUnmatched source e
    by NoMemory k = tt
    by (Refused r) (inl k) = λ q m. shapes_unmatched source (program typed) typed.instances.items is_typed refl k.0 k.1 q m
    by (Refused r) (inr k) =
        let says = k.1 (typed_ready source (program typed) typed.instances.items is_typed c.slots refl) in
        λ q m. coverage_unmatched source (program typed) typed.instances.items is_typed refl says.0 says.1.violated q m
