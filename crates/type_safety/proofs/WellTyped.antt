-- A typed program, whose matches have a clause for each value, is never stuck, and what it gives is of its type: by
-- induction on the calls that are nested, and then on the trees.
use Rattle.std.proofs.Common.{◌≡◌, ◌<◌, ℕ, zero, suc, Bool, true, false, List, [], ◌∷◌, ◌++◌, map, length, is_some, Option, Some, None, slice_get, if◌then◌else◌, arith, refl, sym, ap, ◌∙◌, subst}
use Rattle.match_cover.specs.fip_language.declared.Place.{Place}
use Rattle.match_cover.specs.fip_language.declared.Operator.{Operator}
use Rattle.match_cover.specs.fip_language.Values.{Value, Int, Node, Values, End, More}
use Rattle.match_cover.specs.fip_language.Table.{Table, constructors, shapes, HasType, HaveTypes}
use Rattle.match_cover.specs.fip_language.Matching.{Binding}
use Rattle.match_cover.specs.fip_language.Arithmetic.{Operated, Is, Fails, operate}
use Rattle.match_cover.specs.fip_language.Meaning.{Answer, Gives, Trap, Out, Deep, Stuck, Run, go_on, counted, in_frame, Environment, nothing_bound, bind_matched, more_of, with_value, with_values, operated, operation, if_matches}
use Rattle.match_cover.proofs.fip_language.Search.{slice_get_there}
use Rattle.match_cover.specs.fip_trees.Tree.{Argument, Variable, Literal, Constructor, Arguments, NoArguments, MoreArguments, Expression, Give, Tuple, Operation, Call, Match, Nested, Block, Last, Let, Clauses, NoClauses, MoreClauses, Instance, Program}
use Rattle.type_check.specs.Binders.{all_annotated, entries}
use Rattle.type_check.specs.Scope.{Scope}
use Rattle.type_check.specs.World.{World, Head, world, head, head_of, head_or_none, fields_of, result_of}
use Rattle.type_check.specs.Typing.{HasType as IsOfType, HaveTypes as AreOfTypes, bound_by, Types, TypesBlock, TypesClauses, Typed, AllTyped, parameter_entries}
use Rattle.instance_semantics.specs.Registers.{frame_words}
use Rattle.instance_semantics.specs.Matching.{matching}
use Rattle.instance_semantics.specs.Meaning.{bind_binders, node_of, argument_value, argument_values, Calls, eval, eval_block, eval_clauses, body_run, calls_of, flat_meaning}
use Rattle.type_safety.specs.Formed.{FormedArgument, FormedArguments, FormedExpression, FormedBlock, FormedClauses, FormedInstance, AreFormed, IsBare, IsFormed}
use Rattle.type_safety.specs.Exhaustive.{some_matches, ExhaustiveExpression, ExhaustiveBlock, ExhaustiveClauses, AreExhaustive}
use Rattle.type_safety.specs.Soundness.{IsSoundAnswer, parameter_types, IsWellTyped}
use Rattle.type_safety.proofs.Arithmetic.{IsOf, operate_of}
use Rattle.type_safety.proofs.Scopes.{Held, EnvHas, let_has, parameters_have, pattern_has, node_has}

abbrev pub Sound : Table → List ℕ → Run → Type 0
Sound tb ts r = IsSoundAnswer tb ts r.answer

-- ---- what an evaluation is put together from

sound_go_on : (tb : Table) (us ts : List ℕ) (a : Answer) (go : Values → ℕ → Run) → IsSoundAnswer tb us a → ((vs : Values) (left : ℕ) → HaveTypes tb us vs → Sound tb ts (go vs left)) → Sound tb ts (go_on a go)
sound_go_on tb us ts (Gives vs left) go h next = next vs left h
sound_go_on tb us ts (Trap kind line col) go h next = tt
sound_go_on tb us ts Out go h next = tt
sound_go_on tb us ts Deep go h next = tt
sound_go_on tb us ts Stuck go h next = absurd h

sound_counted : (tb : Table) (ts : List ℕ) (k : ℕ) (go : ℕ → Run) → ((left : ℕ) → Sound tb ts (go left)) → Sound tb ts (counted k go)
sound_counted tb ts zero go h = tt
sound_counted tb ts (suc k) go h = h k

sound_in_frame : (tb : Table) (ts : List ℕ) (tail : Bool) (w d : ℕ) (go : ℕ → Run) → ((free : ℕ) → Sound tb ts (go free)) → Sound tb ts (in_frame tail w d go)
sound_in_frame tb ts true w d go h = h d
sound_in_frame tb ts false w zero go h = tt
sound_in_frame tb ts false w (suc d) go h = h d

sound_with_value : (tb : Table) (ts : List ℕ) (t : ℕ) (o : Option Value) (go : Value → Run) → Held tb o t → ((v : Value) → HasType tb t v → Sound tb ts (go v)) → Sound tb ts (with_value o go)
sound_with_value tb ts t o go h next = subst (λ x. Sound tb ts (with_value x go)) (sym h.1) (next h.0 h.2)

-- values of the types are there
abbrev pub AllHeld : Table → Option Values → List ℕ → Type 0
AllHeld tb o ts = (vs : Values) × (o ≡ Some vs) × HaveTypes tb ts vs

sound_with_values : (tb : Table) (ts us : List ℕ) (o : Option Values) (go : Values → Run) → AllHeld tb o us → ((vs : Values) → HaveTypes tb us vs → Sound tb ts (go vs)) → Sound tb ts (with_values o go)
sound_with_values tb ts us o go h next = subst (λ x. Sound tb ts (with_values x go)) (sym h.1) (next h.0 h.2)

sound_operated : (tb : Table) (t : ℕ) (o : Operated) (p : Place) (k : ℕ) → IsOf tb t o → Sound tb (t ∷ []) (operated o p k)
sound_operated tb t (Is v) p k h = (h, tt)
sound_operated tb t (Fails kind) p k h = tt

sound_operation : (tb : Table) → IsBare tb 1 0 → IsBare tb 1 1 → (o : Operator) (p : Place) (k : ℕ) (v w : Value) → HasType tb 0 v → HasType tb 0 w → Sound tb (result_of o ∷ []) (operation o p k v w)
sound_operation tb f t o p k (Int i) (Int j) h g = sound_operated tb (result_of o) (operate o i j) p k (operate_of tb f t o i j g)
sound_operation tb f t o p k (Int i) (Node c vs) h g = absurd g
sound_operation tb f t o p k (Node c vs) w h g = absurd h

-- the clause that matches, or one after it
sound_clause : (tb : Table) (ts : List ℕ) (o : Option (List Binding)) (go : List Binding → Run) (other : Run) (rest : Bool) → ((bs : List Binding) → o ≡ Some bs → Sound tb ts (go bs)) → (rest ≡ true → Sound tb ts other) → (if is_some o then true else rest) ≡ true → Sound tb ts (if_matches o go other)
sound_clause tb ts None go other rest h g e = g e
sound_clause tb ts (Some bs) go other rest h g e = h bs refl

-- ---- instances by number

pub head_is : (ds : List Instance) (g : ℕ) (d : Instance) → slice_get ds g ≡ Some d → head_or_none (slice_get (map head_of ds) g) ≡ head_of d
head_is [] g d e = cc
head_is (x ∷ ds) zero d e = let same : x ≡ d = cc in ap head_of same
head_is (x ∷ ds) (suc g) d e = head_is ds g d e

pub typed_at : (w : World) (ds : List Instance) (i : ℕ) (d : Instance) → AllTyped true w ds → slice_get ds i ≡ Some d → Typed true w d
typed_at w [] i d h e = cc
typed_at w (x ∷ ds) zero d h e = let same : x ≡ d = cc in subst (Typed true w) same h.0
typed_at w (x ∷ ds) (suc i) d h e = typed_at w ds i d h.1 e

pub formed_at : (p : Program) (ds : List Instance) (i : ℕ) (d : Instance) → AreFormed p ds → slice_get ds i ≡ Some d → FormedInstance p d
formed_at p [] i d h e = cc
formed_at p (x ∷ ds) zero d h e = let same : x ≡ d = cc in subst (FormedInstance p) same h.0
formed_at p (x ∷ ds) (suc i) d h e = formed_at p ds i d h.1 e

pub exhaustive_at : (tb : Table) (ds : List Instance) (i : ℕ) (d : Instance) → AreExhaustive tb ds → slice_get ds i ≡ Some d → ExhaustiveBlock tb d.body
exhaustive_at tb [] i d h e = cc
exhaustive_at tb (x ∷ ds) zero d h e = let same : x ≡ d = cc in subst (λ (y : Instance). ExhaustiveBlock tb y.body) same h.0
exhaustive_at tb (x ∷ ds) (suc i) d h e = exhaustive_at tb ds i d h.1 e

-- ---- trees

-- what calls give is sound
abbrev pub CallsSound : Program → Calls → Type 0
CallsSound p calls = (d g : ℕ) (vs : Values) (k : ℕ) (f : Instance) → slice_get p.instances g ≡ Some f → HaveTypes p.types (parameter_types f) vs → Sound p.types f.results (calls d g vs k)

no_constructor : (tb : Table) (t c : ℕ) → t ≡ 0 → c < length (constructors tb t) → ⊥
no_constructor tb zero c e h = absurd (omega arith)
no_constructor tb (suc t) c e h = absurd (omega arith)

built : (p : Program) (t c : ℕ) (vs : Values) → c < length (constructors p.types t) → HaveTypes p.types (fields_of (world p) t c) vs → HasType p.types t (Node c vs)
built p zero c vs h g = absurd (no_constructor p.types zero c refl h)
built p (suc t) c vs h g = let x = slice_get_there (shapes p.types t) c h in node_has (world p) t c x.0 vs x.1 g

module _ (p : Program) (s : Scope) (env : Environment) (has : EnvHas p.types s env) where
  mutual
    pub argument_has : (b : Bool) (a : Argument) (t : ℕ) → FormedArgument p a → IsOfType true (world p) s b a t → Held p.types (argument_value env a) t
    argument_has b (Variable None n q) t f h = cc
    argument_has b (Variable (Some x) n q) t f h = has x t h
    argument_has b (Literal i q) t f h = subst (Held p.types (Some (Int i))) (sym h) (Int i, refl, f)
    argument_has b (Constructor u d c n q as') t f h =
        let x = arguments_have true as' (fields_of (world p) t c) f.1 h.2 in
        let there : c < length (constructors p.types t) = subst (λ m. c < length (constructors p.types m)) h.0 f.0 in
        (Node c x.0, ap (λ o. node_of c o) x.1, built p t c x.0 there x.2)

    pub arguments_have : (b : Bool) (as' : Arguments) (ts : List ℕ) → FormedArguments p as' → AreOfTypes true (world p) s b as' ts → AllHeld p.types (argument_values env as') ts
    arguments_have b NoArguments [] f h = (End, refl, tt)
    arguments_have b NoArguments (t ∷ ts) f h = absurd h
    arguments_have b (MoreArguments a as') [] f h = absurd h
    arguments_have b (MoreArguments a as') (t ∷ ts) f h =
        let x = argument_has b a t f.0 h.0 in
        let y = arguments_have b as' ts f.1 h.1 in
        (More x.0 y.0, ap (λ o. more_of o (argument_values env as')) x.1 ∙ ap (more_of (Some x.0)) y.1, (x.2, y.2))

call_sound : (p : Program) (calls : Calls) → CallsSound p calls → (g : ℕ) (ts : List ℕ) (vs : Values) (d k : ℕ) → g < length p.instances → ts ≡ (head (world p) g).results → HaveTypes p.types (head (world p) g).parameters vs → Sound p.types ts (calls d g vs k)
call_sound p calls sound g ts vs d k lt e h =
    let x = slice_get_there p.instances g lt in
    let is : head (world p) g ≡ head_of x.0 = head_is p.instances g x.0 x.1 in
    let results : x.0.results ≡ ts = sym (e ∙ ap (λ (y : Head). y.results) is) in
    let typed : HaveTypes p.types (parameter_types x.0) vs = subst (λ (y : Head). HaveTypes p.types y.parameters vs) is h in
    subst (λ us. Sound p.types us (calls d g vs k)) results (sound d g vs k x.0 x.1 typed)

module _ (p : Program) (well : IsFormed p) (calls : Calls) (sound : CallsSound p calls) (words : ℕ) where
  mutual
    pub expression_sound : (s : Scope) (b : Bool) (e : Expression) (ts : List ℕ) (tail : Bool) (d : ℕ) (env : Environment) (k : ℕ) → FormedExpression p e → Types true (world p) s b e ts → ExhaustiveExpression p.types e → EnvHas p.types s env → Sound p.types ts (eval calls words e tail d env k)
    expression_sound s b (Give a) ts tail d env k f h x has =
        sound_with_value p.types ts h.0 (argument_value env a) _ (argument_has p s env has b a h.0 f h.2)
        (λ v g. subst (λ us. HaveTypes p.types us (More v End)) (sym h.1) (g, tt))
    expression_sound s b (Tuple q as') ts tail d env k f h x has =
        sound_with_values p.types ts ts (argument_values env as') _ (arguments_have p s env has b as' ts f h.1) (λ vs g. g)
    expression_sound s b (Operation o q l r) ts tail d env k f h x has =
        sound_with_value p.types ts 0 (argument_value env l) _ (argument_has p s env has true l 0 f.0 h.1)
        (λ v g. sound_with_value p.types ts 0 (argument_value env r) _ (argument_has p s env has true r 0 f.1 h.2)
        (λ u i. subst (λ us. Sound p.types us (operation o q k v u)) (sym h.0) (sound_operation p.types well.false_is_bare well.true_is_bare o q k v u g i)))
    expression_sound s b (Call g n q as') ts tail d env k f h x has =
        sound_with_values p.types ts (head (world p) g).parameters (argument_values env as') _ (arguments_have p s env has true as' (head (world p) g).parameters f.1 h.1)
        (λ vs i. sound_counted p.types ts k _ (λ left. sound_in_frame p.types ts tail words d _ (λ free. call_sound p calls sound g ts vs free left f.0 h.0 i)))
    expression_sound s b (Match ds u q a r body cs) ts tail d env k f h x has =
        let typed = argument_has p s env has false a h.0 f.0 h.2 in
        sound_with_value p.types ts h.0 (argument_value env a) _ typed
        (λ v g. sound_clause p.types ts (matching r v) _ _ (some_matches cs v)
        (λ bs e. block_sound (s ++ bound_by (world p) (Some h.0) r) b body ts tail d (bind_matched env bs) k f.1 h.4 x.1 (pattern_has (world p) h.0 r v bs s env h.3 g e has))
        (λ e. clauses_sound s h.0 cs v ts tail d env k f.2 h.5 x.2 has g e)
        (x.0 v (subst (λ m. HasType p.types m v) (sym h.1) g)))
    expression_sound s b (Nested e) ts tail d env k f h x has = block_sound s b e ts tail d env k f h x has

    pub block_sound : (s : Scope) (b : Bool) (e : Block) (ts : List ℕ) (tail : Bool) (d : ℕ) (env : Environment) (k : ℕ) → FormedBlock p e → TypesBlock true (world p) s b e ts → ExhaustiveBlock p.types e → EnvHas p.types s env → Sound p.types ts (eval_block calls words e tail d env k)
    block_sound s b (Last e) ts tail d env k f h x has = expression_sound s b e ts tail d env k f h x has
    block_sound s b (Let bs e rest) ts tail d env k f h x has =
        sound_go_on p.types h.0 ts (eval calls words e false d env k).answer _ (expression_sound s (all_annotated bs) e h.0 false d env k f.0 h.1 x.0 has)
        (λ vs left g. block_sound (s ++ entries bs (map Some h.0)) b rest ts tail d (bind_binders env bs vs) left f.1 h.3 x.1 (let_has p.types s env bs h.0 vs has h.2 g))

    pub clauses_sound : (s : Scope) (t : ℕ) (cs : Clauses) (v : Value) (ts : List ℕ) (tail : Bool) (d : ℕ) (env : Environment) (k : ℕ) → FormedClauses p cs → TypesClauses true (world p) s t cs ts → ExhaustiveClauses p.types cs → EnvHas p.types s env → HasType p.types t v → some_matches cs v ≡ true → Sound p.types ts (eval_clauses calls words cs v tail d env k)
    clauses_sound s t NoClauses v ts tail d env k f h x has g e = cc
    clauses_sound s t (MoreClauses r body cs) v ts tail d env k f h x has g e =
        sound_clause p.types ts (matching r v) _ _ (some_matches cs v)
        (λ bs i. block_sound (s ++ bound_by (world p) (Some t) r) true body ts tail d (bind_matched env bs) k f.0 h.1 x.0 (pattern_has (world p) t r v bs s env h.0 g i has))
        (λ i. clauses_sound s t cs v ts tail d env k f.1 h.2 x.1 has g i)
        e

pub nothing_has : (tb : Table) → EnvHas tb [] nothing_bound
nothing_has tb x t e = cc

body_sound : (p : Program) → IsFormed p → (calls : Calls) → CallsSound p calls → (f : Instance) → Typed true (world p) f → FormedBlock p f.body → ExhaustiveBlock p.types f.body → (d : ℕ) (vs : Values) (k : ℕ) → HaveTypes p.types (parameter_types f) vs → Sound p.types f.results (body_run calls d (Some f) vs k)
body_sound p well calls sound f h b x d vs k g =
    block_sound p well calls sound (frame_words f) (parameter_entries f.params f.binders) true f.body f.results true d (bind_binders nothing_bound f.binders vs) k b h.3 x
    (parameters_have p.types [] nothing_bound f.params f.binders vs (nothing_has p.types) g)

pub calls_sound : (p : Program) → IsWellTyped p → (m : ℕ) → CallsSound p (calls_of p m)
calls_sound p well zero d g vs k f e h = tt
calls_sound p well (suc m) d g vs k f e h =
    subst (λ o. Sound p.types f.results (body_run (calls_of p m) d o vs k)) (sym e)
    (body_sound p well.formed (calls_of p m) (calls_sound p well m) f (typed_at (world p) p.instances g f well.typed e)
    (formed_at p p.instances g f well.formed.bodies e).body (exhaustive_at p.types p.instances g f well.exhaustive e) d vs k h)

-- an instance on arguments of its types gives results of its types, or a trap, or ran out; it isn't stuck
pub meaning_sound : (p : Program) (i : ℕ) (f : Instance) (vs : Values) (n d : ℕ) → IsWellTyped p → slice_get p.instances i ≡ Some f → HaveTypes p.types (parameter_types f) vs → IsSoundAnswer p.types f.results (flat_meaning p i vs n d).answer
unfolding flat_meaning
meaning_sound p i f vs n d well e h = sound_counted p.types f.results n _ (λ left. calls_sound p well n d i vs left f e h)
