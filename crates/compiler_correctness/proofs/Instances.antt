-- Each instance of a typed program means what the source means by its function, with what is given for its static
-- parameters.
use Rattle.std.proofs.Common.{◌≡◌, inl, inr, ℕ, zero, suc, List, [], ◌∷◌, ◌++◌, Some, slice_get, refl, sym, ap, ◌∙◌, subst}
use Rattle.lowering_soundness.specs.fip_language.Core.{Core}
use Rattle.lowering_soundness.specs.fip_language.Every.{Every, Among}
use Rattle.lowering_soundness.specs.fip_language.Mentions.{all_of}
use Rattle.lowering_soundness.specs.fip_language.Meaning.{meaning}
use Rattle.lowering_soundness.specs.fip_language.Statics.{Closeds}
use Rattle.lowering_soundness.specs.fip_language.Values.{Values}
use Rattle.lowering_soundness.proofs.fip_language.Search.{slice_get_there}
use Rattle.lowering_soundness.proofs.fip_language.Words.{map_at}
use Rattle.lowering_soundness.specs.fip_trees.Tree.{Instance, Program}
use Rattle.source_safety.specs.reached_instances.closed_types.declared.closed.Head.TheVariants as H
use Rattle.source_safety.specs.reached_instances.closed_types.Closed as Z
use Rattle.source_safety.specs.reached_instances.closed_types.Closed.{Closed, Applied}
use Rattle.source_safety.specs.reached_instances.closed_types.Source.{Instance as Instance'}
use Rattle.derivation_correctness.specs.static_params.FlatProgram.{flat_instance, instance_if, instances_of, flat_program}
use Rattle.derivation_correctness.specs.static_params.FlatSource.{flat_source}
use Rattle.derivation_correctness.proofs.static_params.GoodTypes.{IsGoodFunction}
use Rattle.derivation_correctness.proofs.static_params.GoodInstances.{instances_good}
use Rattle.lowering_soundness.specs.type_check.Faults.{filled, fill_instance}
use Rattle.lowering_soundness.specs.type_check.World.{world}
use Rattle.lowering_soundness.specs.instance_semantics.Meaning.{flat_meaning}
use Rattle.source_safety.proofs.type_safety.FilledSlots.{filled_means}
use Rattle.derivation_correctness.specs.source_report.Report.{IsParsed, IsFlat, IsTyped}
use Rattle.derivation_correctness.proofs.source_report.Once.{parsed_once}
use Rattle.source_safety.specs.specialisation_correctness.Declared.{BodyHasClauses, IsDeclared}
use Rattle.source_safety.specs.specialisation_correctness.Named.{function_name, all_named}
use Rattle.source_safety.proofs.specialisation_correctness.Specialised.{instance_means}
use Rattle.source_safety.proofs.specialisation_correctness.CoreClauses.{core_has}
use Rattle.source_safety.proofs.specialisation_correctness.SpeltClauses.{spelt_has}

-- the item from which one of a list is
of_one : {A B : Type 0} (f : A → List B) (xs : List A) → ((x : A) → Among x xs → (d : B) × (f x ≡ d ∷ [])) → (i : ℕ) (d : B) → slice_get (all_of f xs) i ≡ Some d → (x : A) × Among x xs × (slice_get xs i ≡ Some x) × (f x ≡ d ∷ [])
of_one f [] h i d e = absurd (cc)
of_one f (x ∷ xs) h zero d e =
    let o = h x (inl refl) in
    let at : slice_get (o.0 ∷ all_of f xs) 0 ≡ Some d = sym (ap (λ l. slice_get (l ++ all_of f xs) 0) o.1) ∙ e in
    let same : o.0 ≡ d = cc in
    (x, inl refl, refl, o.1 ∙ ap (λ y. y ∷ []) same)
of_one f (x ∷ xs) h (suc i) d e =
    let o = h x (inl refl) in
    let r = of_one f xs (λ y a. h y (inr a)) i d (sym (ap (λ l. slice_get (l ++ all_of f xs) (suc i)) o.1) ∙ e) in
    (r.0, inr r.1, r.2, r.3)

abbrev Means : Core → Program → ℕ → Instance → Type 0
Means core p i d = (given : Closeds) × ((vs : Values) (n free : ℕ) → flat_meaning p i vs n free ≡ meaning core d.name given vs n free)

module _ (source : List ℕ) (q : Program) (h : IsFlat source q) where
  abbrev core : Core
  core = h.core

  abbrev flat : Program
  flat = flat_program (flat_source core) h.numbers

  declared : IsDeclared core
  declared = record {
    accepted = h.declared.unbroken;
    clauses = subst (λ (c : Core). Every BodyHasClauses c.functions) (sym h.declared.parsed.is) (core_has h.declared.parsed.tree (spelt_has source h.declared.parsed.tree h.declared.parsed.spelt));
  }

  one_instance : (c : Closed) → IsGoodFunction core c → (d : Instance) × (instances_of (flat_source core) h.numbers c ≡ d ∷ [])
  one_instance Z.Int g = absurd g
  one_instance (Applied (H.«Type» n) cs) g = absurd g
  one_instance (Applied (H.Function f) cs) g =
      let there = slice_get_there core.functions f g.0 in
      (flat_instance (flat_source core) h.numbers (record { function = f; given = cs }) there.0, ap (instance_if (flat_source core) h.numbers (record { function = f; given = cs })) there.1)

  tree_means : (i : ℕ) (d : Instance) (c : Closed) → IsGoodFunction core c → slice_get h.numbers.instances i ≡ Some c → instances_of (flat_source core) h.numbers c ≡ d ∷ [] → Means core flat i d
  tree_means i d Z.Int g e o = absurd g
  tree_means i d (Applied (H.«Type» n) cs) g e o = absurd g
  tree_means i d (Applied (H.Function f) cs) g e o =
      let there = slice_get_there core.functions f g.0 in
      let it : Instance' = record { function = f; given = cs } in
      let one : flat_instance (flat_source core) h.numbers it there.0 ∷ [] ≡ d ∷ [] = sym (ap (instance_if (flat_source core) h.numbers it) there.1) ∙ o in
      let same : flat_instance (flat_source core) h.numbers it there.0 ≡ d = cc in
      let name : function_name (slice_get core.functions f) ≡ d.name = ap function_name there.1 ∙ ap (λ (d : Instance). d.name) same in (
        all_named core cs,
        λ vs n free.
            instance_means core declared (flat_source core).types h.numbers h.few.instances.instances h.unbroken i f cs vs n free e
            ∙ ap (λ x. meaning core x (all_named core cs) vs n free) name,
      )

  flat_means : (i : ℕ) (d : Instance) → slice_get flat.instances i ≡ Some d → Means core flat i d
  flat_means i d e =
      let good : (c : Closed) → Among c h.numbers.instances → IsGoodFunction core c = λ c a. instances_good core h.numbers.instances h.few.instances.instances c a in
      let o = of_one (instances_of (flat_source core) h.numbers) h.numbers.instances (λ c a. one_instance c (good c a)) i d e in
      tree_means i d o.0 (good o.0 o.1) o.2 o.3

  filled_instance_means : (i : ℕ) (d : Instance) → slice_get (filled flat).instances i ≡ Some d → Means core (filled flat) i d
  filled_instance_means i d e =
      let o = map_at (fill_instance (world flat)) flat.instances i d e in
      let m = flat_means i o.0 o.1 in
      let name : o.0.name ≡ d.name = ap (λ (d : Instance). d.name) o.2 in
      (m.0, λ vs n free. filled_means flat i vs n free ∙ m.1 vs n free ∙ ap (λ x. meaning core x m.0 vs n free) name)

pub instance_meant : (source : List ℕ) (c : Core) (p : Program) → IsParsed source c → IsTyped source p → (i : ℕ) (d : Instance) → slice_get p.instances i ≡ Some d → (given : Closeds) × ((vs : Values) (n free : ℕ) → flat_meaning p i vs n free ≡ meaning c d.name given vs n free)
instance_meant source c p parsed typed i d e =
    let flat = typed.flat in
    let one : c ≡ flat.core = parsed_once source c flat.core parsed flat.declared.parsed in
    let same : p ≡ filled (flat_program (flat_source flat.core) flat.numbers) = typed.is ∙ ap filled flat.is in
    let m = filled_instance_means source typed.untyped flat i d (sym (ap (λ (p : Program). slice_get p.instances i) same) ∙ e) in
    subst (λ b. Means b p i d) (sym one) (subst (λ q. Means flat.core q i d) (sym same) m)
