-- A function of an accepted source is an instance of its typed program, which means what the function means; and that
-- program's fip instances run in place.
use Rattle.std.proofs.Common.{◌≡◌, ◌≤◌, inl, inr, ℕ, zero, suc, ◌+◌, ◌-◌, List, [], ◌∷◌, ◌++◌, Some, slice_get, refl, sym, ap, ◌∙◌, subst, arith}
use Rattle.in_place_safety.specs.fip_language.declared.FunKind.TheVariants.{Fip}
use Rattle.in_place_safety.specs.fip_language.Core as C
use Rattle.in_place_safety.specs.fip_language.Core.{Static, Function, Core}
use Rattle.in_place_safety.specs.fip_language.Every.{Every, Among}
use Rattle.in_place_safety.specs.fip_language.Mentions.{all_of}
use Rattle.in_place_safety.proofs.fip_language.Words.{map_at}
use Rattle.in_place_safety.specs.fip_language.Meaning.{meaning}
use Rattle.in_place_safety.specs.fip_language.Table.{Table, HaveTypes}
use Rattle.in_place_safety.proofs.fip_language.Frames.{more_frames}
use Rattle.in_place_safety.specs.fip_base.declared.plain.Stack.{Stack}
use Rattle.in_place_safety.specs.fip_language.Statics.{Closeds, NoClosed}
use Rattle.in_place_safety.specs.fip_language.Values.{Values}
use Rattle.in_place_safety.proofs.fip_language.Search.{slice_get_there}
use Rattle.in_place_safety.specs.fip_trees.declared.groups.Member.{Member}
use Rattle.in_place_safety.specs.fip_trees.Tree.{Instance, Program}
use Rattle.specialisation_correctness.specs.reached_instances.closed_types.declared.closed.Head.TheVariants as H
use Rattle.specialisation_correctness.specs.reached_instances.closed_types.Closed as Z
use Rattle.specialisation_correctness.specs.reached_instances.closed_types.Closed.{Closed, Applied}
use Rattle.specialisation_correctness.specs.reached_instances.closed_types.Source.{Instance as Instance'}
use Rattle.specialisation_correctness.specs.reached_instances.closed_types.Instances.{root_if, roots_from, roots, calls_from}
use Rattle.specialisation_correctness.specs.static_params.FlatProgram.{Numbers, flat_instance, instance_if, instances_of, flat_program}
use Rattle.in_place_safety.specs.type_check.Faults.{filled, fill_instance}
use Rattle.in_place_safety.specs.type_check.World.{world}
use Rattle.in_place_safety.specs.instance_semantics.Meaning.{flat_meaning}
use Rattle.in_place_safety.specs.tail_groups.Members.{AreMembers}
use Rattle.in_place_safety.proofs.type_safety.FilledSlots.{filled_means}
use Rattle.in_place_safety.specs.type_safety.Soundness.{parameter_types}
use Rattle.in_place_safety.specs.InPlace.{EndsInPlace, RunsInPlace}
use Rattle.specialisation_correctness.specs.static_params.FlatSource.{flat_source}
use Rattle.specialisation_correctness.specs.source_report.Report.{IsParsed, IsFlat, IsAccepted}
use Rattle.specialisation_correctness.proofs.source_report.Once.{parsed_once}
use Rattle.specialisation_correctness.proofs.static_params.GoodTypes.{get_map, IsGoodFunction}
use Rattle.specialisation_correctness.proofs.static_params.GoodInstances.{instances_good}
use Rattle.specialisation_correctness.proofs.static_params.TypeRows.{among_left, among_right, root_numbered, number_there, one_at}
use Rattle.source_safety.proofs.Accepted.{accepted_in_place, accepted_stack}
use Rattle.source_safety.proofs.CoreArguments as Q
use Rattle.source_safety.proofs.Formed.{parsed_fits}
use Rattle.specialisation_correctness.specs.Declared.{AreSome, HasClauses, BlockHasClauses, ClausesHaveClauses, BodyHasClauses, IsDeclared}
use Rattle.specialisation_correctness.specs.Named.{function_name, all_named}
use Rattle.specialisation_correctness.proofs.Specialised.{instance_means}
use Rattle.source_safety.specs.Runs.{RunsAsMeant, InstanceRunsAsMeant}

-- ---- matches have clauses

some : (cs : C.Clauses) → Q.AreSome cs → AreSome cs
some C.NoClauses h = h
some (C.MoreClauses q b cs) h = tt

mutual
  has_clauses : (e : C.Expression) → Q.Fits e → HasClauses e
  has_clauses (C.Give a) h = tt
  has_clauses (C.Tuple p as') h = tt
  has_clauses (C.Operation o p a b) h = tt
  has_clauses (C.Call x p ws as') h = tt
  has_clauses (C.Match d p a cs) h = (some cs h.1, clauses_have cs h.2)
  has_clauses (C.Nested b) h = block_has b h

  block_has : (b : C.Block) → Q.FitsBlock b → BlockHasClauses b
  block_has (C.Last e) h = has_clauses e h
  block_has (C.Let bs e rest) h = (has_clauses e h.0, block_has rest h.1)

  clauses_have : (cs : C.Clauses) → Q.FitClauses cs → ClausesHaveClauses cs
  clauses_have C.NoClauses h = tt
  clauses_have (C.MoreClauses q b cs) h = (block_has b h.0, clauses_have cs h.1)

functions_have : (fs : List Function) → Every (λ (f : Function). Q.FitsBlock f.body) fs → Every BodyHasClauses fs
functions_have [] h = tt
functions_have (f ∷ fs) h = (block_has f.body h.0, functions_have fs h.1)

-- ---- frames

-- where a run lacks no frame with so many, more of them change nothing
same_frames : (core : Core) (name : List ℕ) (given : Closeds) (tb : Table) (d : Instance) (vs : Values) (s : Stack) (calls frames : ℕ) → RunsInPlace tb d vs s s.frames (meaning core name given vs calls s.frames) → s.frames ≤ frames → meaning core name given vs calls frames ≡ meaning core name given vs calls s.frames
same_frames core name given tb d vs s calls frames h le =
    let all : s.frames + (frames - s.frames) ≡ frames = omega (arith, le) in
    ap (λ m. meaning core name given vs calls m) (sym all)
    ∙ more_frames core name given vs calls s.frames (frames - s.frames) (λ e. subst (EndsInPlace tb d vs) e h.ends)

-- ---- the instance of a function

flat_declared : (source : List ℕ) (p : Program) (h : IsFlat source p) → IsDeclared h.core
flat_declared source p h =
    record {
      accepted = h.declared.unbroken;
      clauses = functions_have h.core.functions (parsed_fits source h.core h.declared.parsed);
    }

-- function n without static parameters is the first of the list, or a later one
root_first : (xs : List Static) (n : ℕ) → xs ≡ [] → Among (Applied (H.Function n) Z.NoClosed) (root_if xs n)
root_first [] n e = inl refl
root_first (x ∷ xs) n e = absurd (cc)

root_among : (n i : ℕ) (fs : List Function) (j : ℕ) (f : Function) → slice_get fs j ≡ Some f → f.statics ≡ [] → n ≡ i + j → Among (Applied (H.Function n) Z.NoClosed) (roots_from i fs)
root_among n i [] j f e s h = absurd (cc)
root_among n i (g ∷ fs) zero f e s h =
    let same : g ≡ f = cc in
    let first : i ≡ n = omega (arith, h) in
    among_left (Applied (H.Function n) Z.NoClosed) (root_if g.statics i) (roots_from (suc i) fs)
    (subst (λ m. Among (Applied (H.Function n) Z.NoClosed) (root_if g.statics m)) (sym first) (root_first g.statics n (ap (λ (x : Function). x.statics) same ∙ s)))
root_among n i (g ∷ fs) (suc j) f e s h =
    among_right (Applied (H.Function n) Z.NoClosed) (root_if g.statics i) (roots_from (suc i) fs) (root_among n (suc i) fs j f e s (omega (arith, h)))

module _ (source : List ℕ) (q : Program) (h : IsFlat source q) where
  abbrev core : Core
  core = h.core

  abbrev ns : Numbers
  ns = h.numbers

  abbrev flat : Program
  flat = flat_program (flat_source core) ns

  abbrev here : ℕ → Instance'
  here place = record { function = place; given = Z.NoClosed }

  one_instance : (c : Closed) → IsGoodFunction core c → (d : Instance) × (instances_of (flat_source core) ns c ≡ d ∷ [])
  one_instance Z.Int g = absurd g
  one_instance (Applied (H.«Type» n) cs) g = absurd g
  one_instance (Applied (H.Function f) cs) g =
      let there = slice_get_there core.functions f g.0 in
      (flat_instance (flat_source core) ns (record { function = f; given = cs }) there.0, ap (instance_if (flat_source core) ns (record { function = f; given = cs })) there.1)

  -- the instance of a function without static parameters, and its number
  record IsRoot (place : ℕ) (f : Function) : Type 0 where
    number : ℕ
    there : slice_get flat.instances number ≡ Some (flat_instance (flat_source core) ns (here place) f)
    means : (vs : Values) (n d : ℕ) → flat_meaning flat number vs n d ≡ meaning core f.name NoClosed vs n d

  root_there : (place : ℕ) (f : Function) → slice_get core.functions place ≡ Some f → f.statics ≡ [] → IsRoot place f
  root_there place f e s =
      let among = root_numbered (roots (flat_source core)) (calls_from (flat_source core)) ns.instances h.few.instances.instances (Applied (H.Function place) Z.NoClosed) (root_among place 0 core.functions place f e s (omega arith)) in
      let at = number_there (Applied (H.Function place) Z.NoClosed) ns.instances among in
      record {
        number = at.0;
        there = one_at (instances_of (flat_source core) ns) ns.instances (λ c a. one_instance c (instances_good core ns.instances h.few.instances.instances c a)) at.0 (Applied (H.Function place) Z.NoClosed)
            (flat_instance (flat_source core) ns (here place) f) at.2 (ap (instance_if (flat_source core) ns (here place)) e);
        means = λ vs n d.
            instance_means core (flat_declared source q h) (flat_source core).types ns h.few.instances.instances h.unbroken at.0 place Z.NoClosed vs n d at.2
            ∙ ap (λ o. meaning core (function_name o) NoClosed vs n d) e;
      }

  root_runs : (p : Program) (ms : List Member) (place : ℕ) (f : Function) → IsRoot place f → f.kind ≡ Fip → p ≡ filled flat → IsAccepted source p → AreMembers p.instances ms → RunsAsMeant core p ms f
  root_runs p ms place f r k same accepted members =
      let d : Instance = fill_instance (world flat) (flat_instance (flat_source core) ns (here place) f) in
      let there : slice_get p.instances r.number ≡ Some d = ap (λ (p : Program). slice_get p.instances r.number) same ∙ get_map (fill_instance (world flat)) flat.instances r.number (flat_instance (flat_source core) ns (here place) f) r.there in
      let s = accepted_stack source p ms r.number d accepted members there k in
      let runs : (vs : Values) (n free : ℕ) → HaveTypes p.types (parameter_types d) vs → (s.1).frames ≤ free → RunsInPlace p.types d vs s.1 free (meaning core f.name NoClosed vs n free) =
      λ vs n free typed l.
      subst (RunsInPlace p.types d vs s.1 free)
      (ap (λ p. flat_meaning p r.number vs n free) same ∙ filled_means flat r.number vs n free ∙ r.means vs n free)
      (accepted_in_place source p ms r.number d s.0 s.1 vs n free accepted members there k s.2 s.3 typed l) in
      record {
        number = r.number;
        instance = d;
        there = there;
        name = refl;
        member = s.0;
        found = s.2;
        stack = s.1;
        known = s.3;
        runs = runs;
        same = λ vs n free typed l. same_frames core f.name NoClosed p.types d vs s.1 n free (runs vs n (s.1).frames typed (omega arith)) l;
      }

-- ---- instances

of_one : {A B : Type 0} (f : A → List B) (xs : List A) → ((x : A) → Among x xs → (d : B) × (f x ≡ d ∷ [])) → (i : ℕ) (d : B) → slice_get (all_of f xs) i ≡ Some d → (x : A) × Among x xs × (slice_get xs i ≡ Some x) × (f x ≡ d ∷ [])
of_one f [] h i d e = absurd (cc)
of_one f (x ∷ xs) h zero d e =
    let o = h x (inl refl) in
    let at : slice_get (o.0 ∷ all_of f xs) 0 ≡ Some d = sym (ap (λ l. slice_get (l ++ all_of f xs) 0) o.1) ∙ e in
    let same : o.0 ≡ d = cc in
    (x, inl refl, refl, o.1 ∙ ap (λ y. y ∷ []) same)
of_one f (x ∷ xs) h (suc i) d e =
    let o = h x (inl refl) in
    let r = of_one f xs (λ y a. h y (inr a)) i d (sym (ap (λ l. slice_get (l ++ all_of f xs) (suc i)) o.1) ∙ e) in
    (r.0, inr r.1, r.2, r.3)

module _ (source : List ℕ) (q : Program) (h : IsFlat source q) where
  -- what an instance of the flat program means
  abbrev Means : ℕ → Instance → Type 0
  Means i d = (given : Closeds) × ((vs : Values) (n free : ℕ) → flat_meaning (flat source q h) i vs n free ≡ meaning h.core d.name given vs n free)

  tree_means : (i : ℕ) (d : Instance) (c : Closed) → IsGoodFunction h.core c → slice_get h.numbers.instances i ≡ Some c → instances_of (flat_source h.core) h.numbers c ≡ d ∷ [] → Means i d
  tree_means i d Z.Int g e o = absurd g
  tree_means i d (Applied (H.«Type» n) cs) g e o = absurd g
  tree_means i d (Applied (H.Function f) cs) g e o =
      let there = slice_get_there h.core.functions f g.0 in
      let it : Instance' = record { function = f; given = cs } in
      let one : flat_instance (flat_source h.core) h.numbers it there.0 ∷ [] ≡ d ∷ [] = sym (ap (instance_if (flat_source h.core) h.numbers it) there.1) ∙ o in
      let same : flat_instance (flat_source h.core) h.numbers it there.0 ≡ d = cc in
      let name : function_name (slice_get h.core.functions f) ≡ d.name = ap function_name there.1 ∙ ap (λ (d : Instance). d.name) same in (
        all_named h.core cs,
        λ vs n free.
            instance_means h.core (flat_declared source q h) (flat_source h.core).types h.numbers h.few.instances.instances h.unbroken i f cs vs n free e
            ∙ ap (λ x. meaning h.core x (all_named h.core cs) vs n free) name,
      )

  flat_means : (i : ℕ) (d : Instance) → slice_get (flat source q h).instances i ≡ Some d → Means i d
  flat_means i d e =
      let good : (c : Closed) → Among c h.numbers.instances → IsGoodFunction h.core c = λ c a. instances_good h.core h.numbers.instances h.few.instances.instances c a in
      let o = of_one (instances_of (flat_source h.core) h.numbers) h.numbers.instances (λ c a. one_instance source q h c (good c a)) i d e in
      tree_means i d o.0 (good o.0 o.1) o.2 o.3

  instance_runs : (p : Program) (ms : List Member) (i : ℕ) (f : Instance) → p ≡ filled (flat source q h) → IsAccepted source p → AreMembers p.instances ms → slice_get p.instances i ≡ Some f → f.kind ≡ Fip → InstanceRunsAsMeant h.core p ms i f
  instance_runs p ms i f same accepted members there k =
      let d = map_at (fill_instance (world (flat source q h))) (flat source q h).instances i f (sym (ap (λ (p : Program). slice_get p.instances i) same) ∙ there) in
      let m = flat_means i d.0 d.1 in
      let name : d.0.name ≡ f.name = ap (λ (d : Instance). d.name) d.2 in
      let s = accepted_stack source p ms i f accepted members there k in
      let runs : (vs : Values) (n free : ℕ) → HaveTypes p.types (parameter_types f) vs → (s.1).frames ≤ free → RunsInPlace p.types f vs s.1 free (meaning h.core f.name m.0 vs n free) =
      λ vs n free typed l.
      subst (RunsInPlace p.types f vs s.1 free)
      (ap (λ p. flat_meaning p i vs n free) same ∙ filled_means (flat source q h) i vs n free ∙ m.1 vs n free ∙ ap (λ x. meaning h.core x m.0 vs n free) name)
      (accepted_in_place source p ms i f s.0 s.1 vs n free accepted members there k s.2 s.3 typed l) in
      record {
        given = m.0;
        member = s.0;
        found = s.2;
        stack = s.1;
        known = s.3;
        runs = runs;
        same = λ vs n free typed l. same_frames h.core f.name m.0 p.types f vs s.1 n free (runs vs n (s.1).frames typed (omega arith)) l;
      }

pub instance_in_place : (source : List ℕ) (core : Core) (p : Program) (ms : List Member) (i : ℕ) (f : Instance) → IsParsed source core → IsAccepted source p → AreMembers p.instances ms → slice_get p.instances i ≡ Some f → f.kind ≡ Fip → InstanceRunsAsMeant core p ms i f
instance_in_place source core p ms i f parsed h members there k =
    let typed = h.tailed.credited.owned.matched.typed in
    let one : core ≡ typed.flat.core = parsed_once source core typed.flat.core parsed typed.flat.declared.parsed in
    subst (λ c. InstanceRunsAsMeant c p ms i f) (sym one)
    (instance_runs source typed.untyped typed.flat p ms i f (typed.is ∙ ap filled typed.flat.is) h members there k)

-- ---- functions

pub function_in_place : (source : List ℕ) (core : Core) (p : Program) (ms : List Member) (place : ℕ) (f : Function) → IsParsed source core → IsAccepted source p → AreMembers p.instances ms → slice_get core.functions place ≡ Some f → f.statics ≡ [] → f.kind ≡ Fip → RunsAsMeant core p ms f
function_in_place source core p ms place f parsed h members e n k =
    let typed = h.tailed.credited.owned.matched.typed in
    let flat = typed.flat in
    let one : core ≡ flat.core = parsed_once source core flat.core parsed flat.declared.parsed in
    let at : slice_get flat.core.functions place ≡ Some f = sym (ap (λ (c : Core). slice_get c.functions place) one) ∙ e in
    let r = root_there source typed.untyped flat place f at n in
    subst (λ c. RunsAsMeant c p ms f) (sym one)
    (root_runs source typed.untyped flat p ms place f r k (typed.is ∙ ap filled flat.is) h members)
