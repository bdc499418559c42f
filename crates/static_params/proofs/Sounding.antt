-- The program of a source whose declarations break no rule is sound.
-- Idea: a root is a function without static parameters, with nothing given; functions have unlike names, and no function
-- is numbered twice with what is given for it. The rest is what the rows of the table are.
use Rattle.std.proofs.Common.{◌≡◌, ◌<◌, ◌≤◌, ℕ, zero, suc, Bool, true, false, List, [], ◌∷◌, length, map, Option, Some, None, option_map, slice_get, refl, sym, ap, ◌∙◌, subst, arith}
use Rattle.std.proofs.lemmas.Option.{same_Some}
use Rattle.fip_language.proofs.Search.{slice_get_there}
use Rattle.fip_language.specs.Core.{Core, Function, Static}
use Rattle.fip_language.specs.Declarations.{data_types}
use Rattle.fip_language.specs.Every.{Among}
use Rattle.fip_language.specs.Mentions.{mention}
use Rattle.fip_language.specs.declared.limits.TheConstants.{MOST_INSTANCES}
use Rattle.fip_base.specs.CoreView as V
use Rattle.fip_base.specs.declared.core_form.Core as form
use Rattle.fip_base.specs.declared.refusal.Refusal.{Refusal}
use Rattle.fip_trees.specs.Least.{refusal}
use Rattle.fip_trees.specs.SoundProgram.{IsSoundProgram}
use Rattle.fip_trees.specs.Tree as T
use Rattle.fip_trees.specs.TreeView.{program}
use Rattle.fip_trees.specs.declared.decls.Decls.{Decls}
use Rattle.fip_trees.specs.declared.least.Violation.{Violation}
use Rattle.fip_trees.specs.declared.program.Program.{Program}
use Rattle.data_types.specs.Answers.{Violates}
use Rattle.data_types.specs.DeclaredProgram.{AreDeclared}
use Rattle.data_types.specs.Declarations.{declarations}
use Rattle.data_types.specs.Faults.{function_mentions}
use Rattle.data_types.specs.Types.{IsValued}
use Rattle.reached_instances.specs.closed_types.declared.closed.Head.TheVariants as H
use Rattle.static_params.specs.Answers.{AreFew, IsAccepted, Names}
use Rattle.reached_instances.specs.closed_types.Closed as Z
use Rattle.reached_instances.specs.closed_types.Closed.{Closed, Closeds, Applied, NoClosed, MoreClosed, same_closed}
use Rattle.static_params.specs.FlatProgram.{Numbers, flat_instance, flat_program, instance_if, instances_of, is_root}
use Rattle.static_params.specs.FlatSource.{flat_source}
use Rattle.static_params.specs.FlatView.{IsNamed}
use Rattle.reached_instances.specs.closed_types.Instances.{roots, calls_from}
use Rattle.reached_instances.specs.closed_types.Numbering.{Differ}
use Rattle.reached_instances.specs.closed_types.Source.{Source, Instance, statics_at, statics_or_none}
use Rattle.reached_instances.specs.SourceView as s
use Rattle.reached_instances.proofs.closed_types.ClosedTrees.{closed_exact}
use Rattle.static_params.proofs.ConstructorRows.{functions_once, narrow, one_place, unlike}
use Rattle.static_params.proofs.CoreSources.{source_is}
use Rattle.static_params.proofs.FirstType.{first_shapes}
use Rattle.static_params.proofs.GoodInstances.{instances_good}
use Rattle.static_params.proofs.GoodTypes.{AreGiven, IsGoodFunction, below}
use Rattle.reached_instances.proofs.closed_types.Numbered.{numbered_differ}
use Rattle.static_params.proofs.HeaderCredits.{all_credits}
use Rattle.static_params.proofs.TableRows.{fields_within, inhabited, instances_length, one_instance, types_length}
use Rattle.static_params.proofs.TypeRows.{one_at, there_among}

-- ---- lists

-- what is nowhere twice is at one place
distinct_at : {A : Type 0} (xs : List A) (i j : ℕ) (x : A) → Differ xs → slice_get xs i ≡ Some x → slice_get xs j ≡ Some x → i ≡ j
distinct_at [] i j x d a b = absurd (cc)
distinct_at (y ∷ xs) zero zero x d a b = refl
distinct_at (y ∷ xs) zero (suc j) x d a b = absurd (d.0 (subst (λ z. Among z xs) (sym (same_Some y x a)) (there_among xs j x b)))
distinct_at (y ∷ xs) (suc i) zero x d a b = absurd (d.0 (subst (λ z. Among z xs) (sym (same_Some y x b)) (there_among xs i x a)))
distinct_at (y ∷ xs) (suc i) (suc j) x d a b = ap suc (distinct_at xs i j x d.1 a b)

mentioned_at : (fs : List Function) (i : ℕ) (f : Function) → slice_get fs i ≡ Some f → slice_get (function_mentions fs) i ≡ Some (mention f.name f.place)
mentioned_at [] i f e = absurd (cc)
mentioned_at (x ∷ fs) zero f e = ap (λ (y : Function). Some (mention y.name y.place)) (same_Some x f e)
mentioned_at (x ∷ fs) (suc i) f e = mentioned_at fs i f e

no_statics : (xs : List Static) → is_root xs ≡ true → xs ≡ []
no_statics [] e = refl
no_statics (x ∷ xs) e = absurd (cc)

no_given : (core : Core) (cs : Closeds) → AreGiven core [] cs → cs ≡ NoClosed
no_given core NoClosed h = refl
no_given core (MoreClosed c cs) h = absurd h

-- ---- roots

module _ (core : Core) (unbroken : (v : Violation) → Violates core v → ⊥) (ns : Numbers) (few : AreFew (flat_source core) ns) where
  abbrev p : T.Program
  p = flat_program (flat_source core) ns

  good_at : (c : Closed) → Among c ns.instances → IsGoodFunction core c
  good_at c a = instances_good core ns.instances few.instances.instances c a

  count : length p.instances ≡ length ns.instances
  count = instances_length core ns few.passed few.instances.instances few.given few.types

  one_made : (c : Closed) → Among c ns.instances → (d : T.Instance) × (instances_of (flat_source core) ns c ≡ d ∷ [])
  one_made c a = one_instance core ns few.passed few.instances.instances few.given few.types c (good_at c a)

  -- a root is an instance of a function for which nothing is given
  record IsRootAt (i : ℕ) (d : T.Instance) : Type 0 where
    number : ℕ
    function : Function
    there : slice_get core.functions number ≡ Some function
    at : slice_get ns.instances i ≡ Some (Applied (H.Function number) NoClosed)
    name : function.name ≡ d.name

  root_by : (i : ℕ) (d : T.Instance) (c : Closed) → slice_get ns.instances i ≡ Some c → IsGoodFunction core c → slice_get p.instances i ≡ Some d → d.root ≡ true → IsRootAt i d
  root_by i d Z.Int at g e r = absurd g
  root_by i d (Applied (H.«Type» n) cs) at g e r = absurd g
  root_by i d (Applied (H.Function f) cs) at g e r =
      let there = slice_get_there core.functions f g.0 in
      let here : Instance = record { function = f; given = cs } in
      let made : T.Instance = flat_instance (flat_source core) ns here there.0 in
      let one : instances_of (flat_source core) ns (Applied (H.Function f) cs) ≡ made ∷ [] = ap (instance_if (flat_source core) ns here) there.1 in
      let stands : slice_get p.instances i ≡ Some made = one_at (instances_of (flat_source core) ns) ns.instances one_made i (Applied (H.Function f) cs) made at one in
      let same : made ≡ d = same_Some made d (sym stands ∙ e) in
      let root : is_root there.0.statics ≡ true = ap (λ (x : T.Instance). x.root) same ∙ r in
      let none : statics_at (flat_source core) f ≡ [] = ap statics_or_none there.1 ∙ no_statics there.0.statics root in
      let nothing : cs ≡ NoClosed = no_given core cs (subst (λ xs. AreGiven core xs cs) none g.1) in
      record {
        number = f;
        function = there.0;
        there = there.1;
        at = subst (λ ds. slice_get ns.instances i ≡ Some (Applied (H.Function f) ds)) nothing at;
        name = ap (λ (x : T.Instance). x.name) same;
      }

  root_at : (i : ℕ) (d : T.Instance) → slice_get p.instances i ≡ Some d → d.root ≡ true → IsRootAt i d
  root_at i d e r =
      let small : i < length ns.instances = (let b = below p.instances i d e in let k = count in omega (arith, b, k)) in
      let c = slice_get_there ns.instances i small in
      root_by i d c.0 c.1 (good_at c.0 (there_among ns.instances i c.0 c.1)) e r

  one_root : (i j : ℕ) (d e : T.Instance) → slice_get p.instances i ≡ Some d → slice_get p.instances j ≡ Some e → d.root ≡ true → e.root ≡ true → d.name ≡ e.name → i ≡ j
  one_root i j d e x y r q same =
      let a = root_at i d x r in
      let b = root_at j e y q in
      let number : a.number ≡ b.number =
      one_place (function_mentions core.functions) [] a.number b.number (mention a.function.name a.function.place) (mention b.function.name b.function.place) (functions_once core unbroken ns few)
      (mentioned_at core.functions a.number a.function a.there) (mentioned_at core.functions b.number b.function b.there) (a.name ∙ same ∙ sym b.name) in
      distinct_at ns.instances i j (Applied (H.Function b.number) NoClosed)
      (numbered_differ same_closed closed_exact (roots (flat_source core)) (calls_from (flat_source core)) ns.instances few.instances.instances)
      (subst (λ n. slice_get ns.instances i ≡ Some (Applied (H.Function n) NoClosed)) number a.at) b.at

-- ---- the program

pub flat_is_sound : (core : Core) → ((v : Violation) → Violates core v → ⊥) → ((n : ℕ) → n < length (data_types core) → IsValued (declarations core) n) → (ns : Numbers) → AreFew (flat_source core) ns → IsSoundProgram (flat_program (flat_source core) ns)
flat_is_sound core unbroken valued ns few =
    let instances = count core unbroken ns few in
    let types = types_length core ns few.passed few.instances.instances few.given few.types in
    record {
      few = subst (λ n. n ≤ MOST_INSTANCES) (sym instances) few.instances.few;
      roots = one_root core unbroken ns few;
      few_types = subst (λ n. n ≤ MOST_INSTANCES) (sym types) few.few_types;
      bool = first_shapes core ns few;
      inhabited = inhabited core ns few.passed few.instances.instances few.given few.types valued;
      known = fields_within core ns few.passed few.instances.instances few.given few.types;
      narrow = narrow core unbroken ns few;
      unlike = unlike core unbroken ns few;
      credits = λ i d e. all_credits core unbroken ns d (there_among (flat_program (flat_source core) ns).instances i d e);
    }

pub program_sound : (core : form.Core) (decls : Decls) (p : Program) → AreDeclared core decls → IsAccepted (s.source_of core decls) p → IsSoundProgram (program p)
program_sound core decls p d a =
    let same = source_is core decls d.names d.types d.constructors d.numbered in
    let b : IsAccepted (flat_source (V.core core)) p = subst (λ (x : Source). IsAccepted x p) same a in
    subst IsSoundProgram (sym b.made) (flat_is_sound (V.core core) d.accepted d.valued b.numbers b.few)

-- ---- refusals

-- the violation that is noted is what is refused
pub named_is : (s : Source) (o : Option Violation) (r : Refusal) → IsNamed s o → option_map refusal o ≡ Some r → (v : Violation) × Names s v × (r ≡ refusal v)
named_is s None r n e = absurd (cc)
named_is s (Some v) r n e = (n.0, n.2, sym (same_Some (refusal v) r e) ∙ ap refusal (same_Some v n.0 n.1))
