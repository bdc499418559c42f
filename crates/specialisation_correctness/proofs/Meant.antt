-- The program of a source is specialised, so it means what the source means; typing changes no meaning.
use Rattle.std.proofs.Common.{◌≡◌, ℕ, List, [], true, Some, slice_get, sym, ap, ◌∙◌, subst}
use Rattle.source_report.specs.fip_language.Core.{Function, Core}
use Rattle.source_report.specs.fip_language.Every.{Every}
use Rattle.source_report.specs.fip_language.Meaning.{meaning}
use Rattle.source_report.specs.fip_language.Statics as ByClosed
use Rattle.source_report.specs.fip_language.Values.{Values}
use Rattle.source_report.proofs.fip_language.Words.{slice_get-map}
use Rattle.source_report.specs.fip_trees.Tree as T
use Rattle.source_report.specs.type_check.Faults.{fill_instance, filled}
use Rattle.source_report.specs.type_check.World.{world}
use Rattle.source_report.specs.static_params.FlatProgram.{flat_program}
use Rattle.source_report.specs.instance_semantics.Meaning.{flat_meaning}
use Rattle.source_report.proofs.type_safety.FilledSlots.{filled_means}
use Rattle.source_report.specs.static_params.FlatSource.{flat_source}
use Rattle.source_report.specs.Report.{IsParsed, IsFlat, IsTyped}
use Rattle.source_report.proofs.Once.{parsed_once}
use Rattle.specialisation_correctness.specs.Declared.{BodyHasClauses, IsDeclared}
use Rattle.specialisation_correctness.specs.Means.{IsRun}
use Rattle.specialisation_correctness.proofs.Instances.{at_map}
use Rattle.specialisation_correctness.proofs.Specialised.{root_means, function_runs}
use Rattle.specialisation_correctness.proofs.CoreClauses.{core_has}
use Rattle.specialisation_correctness.proofs.SpeltClauses.{spelt_has}

parsed_has : (source : List ℕ) (core : Core) → IsParsed source core → Every BodyHasClauses core.functions
parsed_has source core h = subst (λ (c : Core). Every BodyHasClauses c.functions) (sym h.is) (core_has h.tree (spelt_has source h.tree h.spelt))

module _ (source : List ℕ) (p : T.Program) (flat : IsFlat source p) where
  abbrev pub core : Core
  core = flat.core

  declared : IsDeclared core
  declared = record { accepted = flat.declared.unbroken; clauses = parsed_has source core flat.declared.parsed }

  abbrev plain : T.Program
  plain = flat_program (flat_source core) flat.numbers

  typed_root : (i : ℕ) (d : T.Instance) (arguments : Values) (calls frames : ℕ) → slice_get (filled plain).instances i ≡ Some d → d.root ≡ true → flat_meaning (filled plain) i arguments calls frames ≡ meaning core d.name ByClosed.NoClosed arguments calls frames
  typed_root i d arguments calls frames e r =
      let o = at_map (fill_instance (world plain)) plain.instances i d e in
      filled_means plain i arguments calls frames
      ∙ root_means core declared (flat_source core).types flat.numbers flat.few.instances.instances flat.unbroken i o.0 arguments calls frames o.1 (ap (λ (x : T.Instance). x.root) o.2 ∙ r)
      ∙ ap (λ (x : T.Instance). meaning core x.name ByClosed.NoClosed arguments calls frames) o.2

  typed_run : (j : ℕ) (f : Function) → slice_get core.functions j ≡ Some f → f.statics ≡ [] → IsRun core (filled plain) f
  typed_run j f e n =
      let r = function_runs core declared (flat_source core).types flat.numbers flat.few.instances.instances flat.unbroken j f e n in
      record {
        number = r.number;
        instance = fill_instance (world plain) r.instance;
        there = slice_get-map (fill_instance (world plain)) plain.instances r.number r.instance r.there;
        name = r.name;
        root = r.root;
        means = λ arguments calls frames. filled_means plain r.number arguments calls frames ∙ r.means arguments calls frames;
      }

module _ (source : List ℕ) (p : T.Program) (typed : IsTyped source p) where
  abbrev flat : IsFlat source typed.untyped
  flat = typed.flat

  made : filled (flat_program (flat_source flat.core) flat.numbers) ≡ p
  made = ap filled (sym flat.is) ∙ sym typed.is

  own_root : (i : ℕ) (d : T.Instance) (arguments : Values) (calls frames : ℕ) → slice_get p.instances i ≡ Some d → d.root ≡ true → flat_meaning p i arguments calls frames ≡ meaning flat.core d.name ByClosed.NoClosed arguments calls frames
  own_root i d arguments calls frames e r =
      sym (ap (λ q. flat_meaning q i arguments calls frames) made)
      ∙ typed_root source typed.untyped flat i d arguments calls frames (ap (λ (q : T.Program). slice_get q.instances i) made ∙ e) r

  own_run : (j : ℕ) (f : Function) → slice_get flat.core.functions j ≡ Some f → f.statics ≡ [] → IsRun flat.core p f
  own_run j f e n = subst (λ q. IsRun flat.core q f) made (typed_run source typed.untyped flat j f e n)

  pub root_meant : (c : Core) → IsParsed source c → (i : ℕ) (d : T.Instance) (arguments : Values) (calls frames : ℕ) → slice_get p.instances i ≡ Some d → d.root ≡ true → flat_meaning p i arguments calls frames ≡ meaning c d.name ByClosed.NoClosed arguments calls frames
  root_meant c h i d arguments calls frames e r =
      own_root i d arguments calls frames e r ∙ ap (λ b. meaning b d.name ByClosed.NoClosed arguments calls frames) (parsed_once source flat.core c flat.declared.parsed h)

  pub function_meant : (c : Core) → IsParsed source c → (j : ℕ) (f : Function) → slice_get c.functions j ≡ Some f → f.statics ≡ [] → IsRun c p f
  function_meant c h j f e n =
      let same = parsed_once source flat.core c flat.declared.parsed h in
      subst (λ b. IsRun b p f) same (own_run j f (ap (λ (b : Core). slice_get b.functions j) same ∙ e) n)
