-- What specialising gives is specialised, by name; so each instance means what its function means.
use Rattle.std.proofs.Common.{◌≡◌, inl, inr, ℕ, zero, suc, true, List, [], ◌∷◌, ◌++◌, ◌+◌, arith, length, map, Some, slice_get, refl, sym, ap, ◌∙◌, subst}
use Rattle.std.specs.Prelude.{codes}
use Rattle.source_report.specs.fip_language.Core.{Name, Static, Function, Core}
use Rattle.source_report.specs.fip_language.Declarations.{function_of}
use Rattle.source_report.specs.fip_language.Every.{Among}
use Rattle.source_report.specs.fip_language.Mentions.{all_of}
use Rattle.source_report.specs.fip_language.Meaning.{meaning}
use Rattle.source_report.specs.fip_language.Statics as ByClosed
use Rattle.source_report.specs.fip_language.Values.{Values}
use Rattle.source_report.proofs.fip_language.Plain.{every_at}
use Rattle.source_report.specs.fip_trees.Least.{In}
use Rattle.source_report.specs.fip_trees.Names.{Names}
use Rattle.source_report.specs.fip_trees.Tree as T
use Rattle.source_report.specs.fip_trees.TreeView.{program}
use Rattle.source_report.specs.fip_trees.declared.program.Program.{Program}
use Rattle.source_report.specs.fip_trees.declared.least.Violation.{Violation}
use Rattle.source_report.specs.data_types.Declarations.{function_scope, declared_names, written_names}
use Rattle.source_report.specs.data_types.Faults.{repeats, type_mentions, constructor_mentions, function_mentions, static_mentions, parameter_mentions, credit_faults, header_faults, block_faults, function_faults, all_data_faults, all_function_faults, name_faults, written_violations}
use Rattle.source_report.proofs.data_types.Exact.{none_left, none_right, all_declared}
use Rattle.source_report.specs.reached_instances.closed_types.declared.closed.Head.TheVariants as H
use Rattle.source_report.specs.static_params.Answers.{IsAccepted}
use Rattle.source_report.specs.reached_instances.closed_types.Closed.{Closed, Closeds, Int, Applied, NoClosed, MoreClosed, same_closed}
use Rattle.source_report.specs.reached_instances.closed_types.Source.{Declared, Source, statics_or_none}
use Rattle.source_report.specs.reached_instances.closed_types.Instances.{roots, roots_from, root_if, calls_from, all_faults, AreInstances}
use Rattle.source_report.specs.static_params.FlatProgram.{Numbers, is_root, credit_size, flat_parameter, flat_instance, instance_if, instances_of, flat_program}
use Rattle.source_report.proofs.reached_instances.closed_types.ClosedTrees.{closed_exact}
use Rattle.source_report.proofs.reached_instances.closed_types.Numbered.{numbered_roots}
use Rattle.source_report.specs.instance_semantics.Meaning.{flat_meaning}
use Rattle.source_report.specs.instance_semantics.Specialised.{IsInstance, Stands, IsSpecialised}
use Rattle.source_report.proofs.instance_semantics.Means.{means}
use Rattle.specialisation_correctness.specs.Declared.{BodyHasClauses, IsDeclared, IsSourceOf}
use Rattle.specialisation_correctness.specs.Means.{IsRun}
use Rattle.specialisation_correctness.specs.Named.{function_name, head_name, named, all_named}
use Rattle.specialisation_correctness.proofs.Lookups.{function_first}
use Rattle.specialisation_correctness.proofs.Places.{source_with, IsHere}
use Rattle.specialisation_correctness.proofs.Arguments.{parameters_are, block_is}
use Rattle.specialisation_correctness.proofs.Instances.{at_among, none_of_each, one_at, at_map, map_at, numbered_there, IsFunctionTree, AreGiven, instance_at, instance_trees, call_reached}
use Rattle.source_report.proofs.cell_lower.fip_language.Facts.{map_length}

-- ---- lists

nothing_in : (vs : List Violation) → ((v : Violation) → In v vs → ⊥) → vs ≡ []
nothing_in [] h = refl
nothing_in (v ∷ vs) h = absurd (h v (inl refl))

-- where each gives one, what is at a place is what one gives
of_one : {A B : Type 0} (f : A → List B) (xs : List A) → ((x : A) → Among x xs → (d : B) × (f x ≡ d ∷ [])) → (i : ℕ) (d : B) → slice_get (all_of f xs) i ≡ Some d → (x : A) × (slice_get xs i ≡ Some x) × (f x ≡ d ∷ [])
of_one f [] h i d e = absurd (cc)
of_one f (x ∷ xs) h zero d e =
    let o = h x (inl refl) in
    let g : Some o.0 ≡ Some d = sym (ap (λ l. slice_get (l ++ all_of f xs) 0) o.1) ∙ e in
    let s : o.0 ≡ d = cc in
    (x, refl, o.1 ∙ ap (λ y. y ∷ []) s)
of_one f (x ∷ xs) h (suc i) d e =
    let o = h x (inl refl) in
    of_one f xs (λ y a. h y (inr a)) i d (sym (ap (λ l. slice_get (l ++ all_of f xs) (suc i)) o.1) ∙ e)

-- ---- what a program that is declared keeps to

module _ (core : Core) (declared : IsDeclared core) where
  unbroken_core : written_violations core ≡ []
  unbroken_core = nothing_in (written_violations core) (λ v h. declared.accepted v (inl h))

  abbrev data_part : List Violation
  data_part = all_data_faults (declared_names core) core.types

  abbrev function_part : List Violation
  function_part = all_function_faults (declared_names core) core.functions

  functions_once : repeats [] (function_mentions core.functions) ≡ []
  functions_once =
      let ts = repeats (codes "bool" ∷ []) (type_mentions core.types) in
      let ks = repeats (codes "False" ∷ codes "True" ∷ []) (constructor_mentions core.types) in
      let fs = repeats [] (function_mentions core.functions) in
      none_right ks fs (none_right ts (ks ++ fs) (none_left (name_faults core) (data_part ++ function_part) unbroken_core))

  function_unbroken : (j : ℕ) (f : Function) → slice_get core.functions j ≡ Some f → function_faults (declared_names core) f ≡ []
  function_unbroken j f e =
      none_of_each (function_faults (declared_names core)) core.functions
      (none_right data_part function_part (none_right (name_faults core) (data_part ++ function_part) unbroken_core)) f (at_among core.functions j f e)

  after_credits : (j : ℕ) (f : Function) → slice_get core.functions j ≡ Some f → repeats [] (static_mentions f.statics) ++ (repeats [] (parameter_mentions f.parameters) ++ (header_faults (function_scope (declared_names core) f) f ++ block_faults (function_scope (declared_names core) f) f.body)) ≡ []
  after_credits j f e = none_right (credit_faults f.credits) _ (function_unbroken j f e)

  statics_once : (j : ℕ) (f : Function) → slice_get core.functions j ≡ Some f → repeats [] (static_mentions f.statics) ≡ []
  statics_once j f e = none_left (repeats [] (static_mentions f.statics)) _ (after_credits j f e)

  body_unbroken : (j : ℕ) (f : Function) → slice_get core.functions j ≡ Some f → block_faults (function_scope (declared_names core) f) f.body ≡ []
  body_unbroken j f e =
      let hs = header_faults (function_scope (declared_names core) f) f in
      let bs = block_faults (function_scope (declared_names core) f) f.body in
      none_right hs bs (none_right (repeats [] (parameter_mentions f.parameters)) (hs ++ bs) (none_right (repeats [] (static_mentions f.statics)) (repeats [] (parameter_mentions f.parameters) ++ (hs ++ bs)) (after_credits j f e)))

  same_constructors : (declared_names core).constructors ≡ (written_names core).constructors
  same_constructors = ap (λ (n : Names). n.constructors) (all_declared core unbroken_core)

  -- ---- its instances

  module _ (ts : List Declared) (ns : Numbers) (instances : AreInstances (source_with core ts) ns.instances) (unbroken : all_faults (source_with core ts) ns.instances ≡ []) where
    abbrev from : Source
    from = source_with core ts

    abbrev pub numbered : List ByClosed.Closed
    numbered = map (named core) ns.instances

    abbrev is_here : (f : ℕ) (cs : Closeds) (fn : Function) → slice_get core.functions f ≡ Some fn → IsHere core (instance_at f cs)
    is_here f cs fn e = record { function = fn; there = e; once = statics_once f fn e }

    instance_is : (f : ℕ) (cs : Closeds) (fn : Function) → slice_get core.functions f ≡ Some fn → Among (Applied (H.Function f) cs) ns.instances → IsInstance core numbered (record { function = fn; given = all_named core cs }) (flat_instance from ns (instance_at f cs) fn)
    instance_is f cs fn e a =
        record {
          parameters = map_length (flat_parameter from ns (instance_at f cs)) fn.parameters;
          credits = map_length credit_size fn.credits;
          binders = parameters_are core ts (function_scope (declared_names core) fn) same_constructors ns (instance_at f cs) fn.parameters;
          body = block_is core ts (function_scope (declared_names core) fn) same_constructors ns (instance_at f cs) numbered (record { function = fn; given = all_named core cs })
              true fn.body (body_unbroken f fn e) (every_at BodyHasClauses core.functions f fn declared.clauses e)
              (λ c h. call_reached core ts ns instances unbroken f cs fn e a (is_here f cs fn e) c h);
        }

    one_instance : (c : Closed) → Among c ns.instances → (d : T.Instance) × (instances_of from ns c ≡ d ∷ [])
    one_instance c a = by c (instance_trees core ts ns.instances instances c a)
      where
        by : (c : Closed) → IsFunctionTree from c → (d : T.Instance) × (instances_of from ns c ≡ d ∷ [])
        by Int h = absurd h
        by (Applied (H.«Type» n) cs) h = absurd h
        by (Applied (H.Function f) cs) h = (flat_instance from ns (instance_at f cs) h.0.0, ap (instance_if from ns (instance_at f cs)) h.0.1)

    instance_there : (i f : ℕ) (cs : Closeds) (fn : Function) → slice_get core.functions f ≡ Some fn → slice_get ns.instances i ≡ Some (Applied (H.Function f) cs) → slice_get (flat_program from ns).instances i ≡ Some (flat_instance from ns (instance_at f cs) fn)
    instance_there i f cs fn e g =
        one_at (instances_of from ns) ns.instances one_instance i (Applied (H.Function f) cs) (flat_instance from ns (instance_at f cs) fn) g (ap (instance_if from ns (instance_at f cs)) e)

    stands_by : (i : ℕ) (c : Closed) (name : Name) (given : ByClosed.Closeds) → slice_get ns.instances i ≡ Some c → IsFunctionTree from c → named core c ≡ ByClosed.ClosedName name given → Stands core numbered (flat_program from ns) i name given
    stands_by i Int name given e h g = absurd h
    stands_by i (Applied (H.«Type» n) cs) name given e h g = absurd h
    stands_by i (Applied (H.Function f) cs) name given e h g =
        let fn = h.0.0 in
        let x : head_name core (H.Function f) ≡ name = cc in
        let y : all_named core cs ≡ given = cc in
        let is : fn.name ≡ name = sym (ap function_name h.0.1) ∙ x in
        record {
          function = fn;
          instance = flat_instance from ns (instance_at f cs) fn;
          declared = ap (function_of core) (sym is) ∙ function_first [] core.functions f fn functions_once h.0.1;
          there = instance_there i f cs fn h.0.1 e;
          is = subst (λ gs. IsInstance core numbered (record { function = fn; given = gs }) (flat_instance from ns (instance_at f cs) fn)) y
              (instance_is f cs fn h.0.1 (at_among ns.instances i (Applied (H.Function f) cs) e));
        }

    not_int : (c : Closed) → IsFunctionTree from c → named core c ≡ ByClosed.ClosedInt → ⊥
    not_int Int h e = h
    not_int (Applied (H.«Type» n) cs) h e = h
    not_int (Applied (H.Function f) cs) h e = absurd (cc)

    tree_at : (i : ℕ) (c : Closed) → slice_get ns.instances i ≡ Some c → IsFunctionTree from c
    tree_at i c e = instance_trees core ts ns.instances instances c (at_among ns.instances i c e)

    pub flat_specialised : IsSpecialised core (flat_program from ns) numbered
    flat_specialised =
        record {
          functions = λ i name given e. let r = at_map (named core) ns.instances i (ByClosed.ClosedName name given) e in stands_by i r.0 name given r.1 (tree_at i r.0 r.1) r.2;
          no_int = λ i e. let r = at_map (named core) ns.instances i ByClosed.ClosedInt e in not_int r.0 (tree_at i r.0 r.1) r.2;
        }

    -- ---- what they mean

    pub instance_means : (i f : ℕ) (cs : Closeds) (arguments : Values) (calls frames : ℕ) → slice_get ns.instances i ≡ Some (Applied (H.Function f) cs) → flat_meaning (flat_program from ns) i arguments calls frames ≡ meaning core (head_name core (H.Function f)) (all_named core cs) arguments calls frames
    instance_means i f cs arguments calls frames e =
        means core (flat_program from ns) numbered i (head_name core (H.Function f)) (all_named core cs) arguments calls frames flat_specialised
        (map_at (named core) ns.instances i (Applied (H.Function f) cs) e)

    root_by : (xs : List Static) (cs : Closeds) → is_root xs ≡ true → AreGiven from xs cs → cs ≡ NoClosed
    root_by [] NoClosed e h = refl
    root_by [] (MoreClosed c cs) e h = absurd h
    root_by (x ∷ xs) cs e h = absurd (cc)

    root_means_by : (i : ℕ) (d : T.Instance) (c : Closed) (arguments : Values) (calls frames : ℕ) → slice_get ns.instances i ≡ Some c → instances_of from ns c ≡ d ∷ [] → IsFunctionTree from c → d.root ≡ true → flat_meaning (flat_program from ns) i arguments calls frames ≡ meaning core d.name ByClosed.NoClosed arguments calls frames
    root_means_by i d Int arguments calls frames e g h r = absurd h
    root_means_by i d (Applied (H.«Type» n) cs) arguments calls frames e g h r = absurd h
    root_means_by i d (Applied (H.Function f) cs) arguments calls frames e g h r =
        let fn = h.0.0 in
        let one : flat_instance from ns (instance_at f cs) fn ∷ [] ≡ d ∷ [] = sym (ap (instance_if from ns (instance_at f cs)) h.0.1) ∙ g in
        let it : flat_instance from ns (instance_at f cs) fn ≡ d = cc in
        let root : is_root fn.statics ≡ true = ap (λ (x : T.Instance). x.root) it ∙ r in
        let given : AreGiven from fn.statics cs = subst (λ o. AreGiven from (statics_or_none o) cs) h.0.1 h.1 in
        let none : cs ≡ NoClosed = root_by fn.statics cs root given in
        let name : head_name core (H.Function f) ≡ d.name = ap function_name h.0.1 ∙ ap (λ (x : T.Instance). x.name) it in
        instance_means i f cs arguments calls frames e
        ∙ ap (λ gs. meaning core (head_name core (H.Function f)) (all_named core gs) arguments calls frames) none
        ∙ ap (λ x. meaning core x ByClosed.NoClosed arguments calls frames) name

    -- a root means what the function of its name means
    pub root_means : (i : ℕ) (d : T.Instance) (arguments : Values) (calls frames : ℕ) → slice_get (flat_program from ns).instances i ≡ Some d → d.root ≡ true → flat_meaning (flat_program from ns) i arguments calls frames ≡ meaning core d.name ByClosed.NoClosed arguments calls frames
    root_means i d arguments calls frames e r =
        let o = of_one (instances_of from ns) ns.instances one_instance i d e in
        root_means_by i d o.0 arguments calls frames o.1 o.2 (tree_at i o.0 o.1) r

    root_first : (xs : List Static) (i : ℕ) → xs ≡ [] → Among (Applied (H.Function i) NoClosed) (root_if xs i)
    root_first [] i e = inl refl
    root_first (x ∷ xs) i e = absurd (cc)

    among_left : (x : Closed) (xs ys : List Closed) → Among x xs → Among x (xs ++ ys)
    among_left x [] ys h = absurd h
    among_left x (y ∷ xs) ys (inl e) = inl e
    among_left x (y ∷ xs) ys (inr h) = inr (among_left x xs ys h)

    among_right : (x : Closed) (xs ys : List Closed) → Among x ys → Among x (xs ++ ys)
    among_right x [] ys h = h
    among_right x (y ∷ xs) ys h = inr (among_right x xs ys h)

    root_among : (k i : ℕ) (fs : List Function) (j : ℕ) (f : Function) → slice_get fs j ≡ Some f → f.statics ≡ [] → k ≡ i + j → Among (Applied (H.Function k) NoClosed) (roots_from i fs)
    root_among k i [] j f e n h = absurd (cc)
    root_among k i (g ∷ fs) zero f e n h =
        let s : g ≡ f = cc in
        let p : i ≡ k = omega (arith, h) in
        among_left (Applied (H.Function k) NoClosed) (root_if g.statics i) (roots_from (suc i) fs)
        (subst (λ m. Among (Applied (H.Function k) NoClosed) (root_if g.statics m)) (sym p) (root_first g.statics k (ap (λ (x : Function). x.statics) s ∙ n)))
    root_among k i (g ∷ fs) (suc j) f e n h =
        among_right (Applied (H.Function k) NoClosed) (root_if g.statics i) (roots_from (suc i) fs) (root_among k (suc i) fs j f e n (omega (arith, h)))

    -- each function without static parameters is there
    pub function_runs : (j : ℕ) (f : Function) → slice_get core.functions j ≡ Some f → f.statics ≡ [] → IsRun core (flat_program from ns) f
    function_runs j f e n =
        let root = numbered_roots same_closed closed_exact (roots from) (calls_from from) ns.instances instances (Applied (H.Function j) NoClosed) (root_among j 0 core.functions j f e n (omega arith)) in
        let at = numbered_there (Applied (H.Function j) NoClosed) ns.instances root in
        record {
          number = at.number;
          instance = flat_instance from ns (instance_at j NoClosed) f;
          there = instance_there at.number j NoClosed f e at.there;
          name = refl;
          root = ap is_root n;
          means = λ arguments calls frames. instance_means at.number j NoClosed arguments calls frames at.there ∙ ap (λ x. meaning core x ByClosed.NoClosed arguments calls frames) (ap function_name e);
        }

-- ---- of what is accepted

same_source : (s : Source) (ns : Names) (fs : List Function) → s.names ≡ ns → s.functions ≡ fs → record { names = ns; types = s.types; functions = fs } ≡ s
same_source s ns fs e f =
    ap (λ n. record { names = n; types = s.types; functions = fs }) (sym e) ∙ ap (λ gs. record { names = s.names; types = s.types; functions = gs }) (sym f)

module _ (core : Core) (s : Source) (p : Program) (declared : IsDeclared core) (source : IsSourceOf core s) (accepted : IsAccepted s p) where
  plain : source_with core s.types ≡ s
  plain = same_source s (written_names core) core.functions source.names source.functions

  instances : AreInstances (source_with core s.types) accepted.numbers.instances
  instances = subst (λ t. AreInstances t accepted.numbers.instances) (sym plain) accepted.few.instances.instances

  unbroken : all_faults (source_with core s.types) accepted.numbers.instances ≡ []
  unbroken = ap (λ t. all_faults t accepted.numbers.instances) plain ∙ accepted.unbroken

  made : flat_program (source_with core s.types) accepted.numbers ≡ program p
  made = ap (λ t. flat_program t accepted.numbers) plain ∙ sym accepted.made

  pub specialised : IsSpecialised core (program p) (map (named core) accepted.numbers.instances)
  specialised = subst (λ q. IsSpecialised core q (map (named core) accepted.numbers.instances)) made (flat_specialised core declared s.types accepted.numbers instances unbroken)

  pub accepted_means : (i f : ℕ) (cs : Closeds) (arguments : Values) (calls frames : ℕ) → slice_get accepted.numbers.instances i ≡ Some (Applied (H.Function f) cs) → flat_meaning (program p) i arguments calls frames ≡ meaning core (head_name core (H.Function f)) (all_named core cs) arguments calls frames
  accepted_means i f cs arguments calls frames e =
      sym (ap (λ q. flat_meaning q i arguments calls frames) made) ∙ instance_means core declared s.types accepted.numbers instances unbroken i f cs arguments calls frames e

  pub accepted_root : (i : ℕ) (d : T.Instance) (arguments : Values) (calls frames : ℕ) → slice_get (program p).instances i ≡ Some d → d.root ≡ true → flat_meaning (program p) i arguments calls frames ≡ meaning core d.name ByClosed.NoClosed arguments calls frames
  accepted_root i d arguments calls frames e r =
      sym (ap (λ q. flat_meaning q i arguments calls frames) made)
      ∙ root_means core declared s.types accepted.numbers instances unbroken i d arguments calls frames (ap (λ (q : T.Program). slice_get q.instances i) made ∙ e) r

  pub accepted_runs : (j : ℕ) (f : Function) → slice_get core.functions j ≡ Some f → f.statics ≡ [] → IsRun core (program p) f
  accepted_runs j f e n = subst (λ q. IsRun core q f) made (function_runs core declared s.types accepted.numbers instances unbroken j f e n)
