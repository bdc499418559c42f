-- What a typed program gives is of its types, whether or not its matches have a clause for each value: by induction on
-- the calls that are nested, and then on the trees.
use Rattle.std.proofs.Common.{◌≡◌, ◌<◌, ℕ, zero, suc, Bool, true, false, List, [], ◌∷◌, ◌++◌, map, length, Option, Some, None, slice_get, refl, sym, ap, ◌∙◌, subst}
use Rattle.match_cover.specs.fip_language.declared.Place.{Place}
use Rattle.match_cover.specs.fip_language.declared.Operator.{Operator}
use Rattle.match_cover.specs.fip_language.Values.{Value, Int, Node, Values, End, More}
use Rattle.match_cover.specs.fip_language.Table.{Table, HasType, HaveTypes}
use Rattle.match_cover.specs.fip_language.Matching.{Binding}
use Rattle.match_cover.specs.fip_language.Arithmetic.{Operated, Is, Fails, operate}
use Rattle.match_cover.specs.fip_language.Meaning.{Answer, Gives, Trap, Out, Deep, Stuck, Run, go_on, counted, in_frame, Environment, nothing_bound, bind_matched, with_value, with_values, operated, operation, if_matches}
use Rattle.match_cover.proofs.fip_language.Search.{slice_get_there}
use Rattle.match_cover.specs.fip_trees.Tree.{Expression, Give, Tuple, Operation, Call, Match, Nested, Block, Last, Let, Clauses, NoClauses, MoreClauses, Instance, Program}
use Rattle.type_check.specs.Binders.{all_annotated, entries}
use Rattle.type_check.specs.Scope.{Scope}
use Rattle.type_check.specs.World.{Head, world, head, head_of, result_of}
use Rattle.type_check.specs.Typing.{bound_by, Types, TypesBlock, TypesClauses, Typed, parameter_entries, IsFilled}
use Rattle.instance_semantics.specs.Registers.{frame_words}
use Rattle.instance_semantics.specs.Matching.{matching}
use Rattle.instance_semantics.specs.Meaning.{bind_binders, argument_value, argument_values, Calls, eval, eval_block, eval_clauses, body_run, calls_of, flat_meaning}
use Rattle.type_safety.specs.Formed.{FormedExpression, FormedBlock, FormedClauses, IsBare, IsFormed}
use Rattle.type_safety.specs.Soundness.{IsTypedAnswer, parameter_types}
use Rattle.type_safety.proofs.Arithmetic.{IsOf, operate_of}
use Rattle.type_safety.proofs.Scopes.{Held, EnvHas, let_has, parameters_have, pattern_has}
use Rattle.type_safety.proofs.WellTyped.{AllHeld, head_is, typed_at, formed_at, argument_has, arguments_have, nothing_has}

abbrev pub Gained : Table → List ℕ → Run → Type 0
Gained tb ts r = IsTypedAnswer tb ts r.answer

gained_go_on : (tb : Table) (us ts : List ℕ) (a : Answer) (go : Values → ℕ → Run) → IsTypedAnswer tb us a → ((vs : Values) (left : ℕ) → HaveTypes tb us vs → Gained tb ts (go vs left)) → Gained tb ts (go_on a go)
gained_go_on tb us ts (Gives vs left) go h next = next vs left h
gained_go_on tb us ts (Trap kind line col) go h next = tt
gained_go_on tb us ts Out go h next = tt
gained_go_on tb us ts Deep go h next = tt
gained_go_on tb us ts Stuck go h next = tt

gained_counted : (tb : Table) (ts : List ℕ) (k : ℕ) (go : ℕ → Run) → ((left : ℕ) → Gained tb ts (go left)) → Gained tb ts (counted k go)
gained_counted tb ts zero go h = tt
gained_counted tb ts (suc k) go h = h k

gained_in_frame : (tb : Table) (ts : List ℕ) (tail : Bool) (w d : ℕ) (go : ℕ → Run) → ((free : ℕ) → Gained tb ts (go free)) → Gained tb ts (in_frame tail w d go)
gained_in_frame tb ts true w d go h = h d
gained_in_frame tb ts false w zero go h = tt
gained_in_frame tb ts false w (suc d) go h = h d

gained_with_value : (tb : Table) (ts : List ℕ) (t : ℕ) (o : Option Value) (go : Value → Run) → Held tb o t → ((v : Value) → HasType tb t v → Gained tb ts (go v)) → Gained tb ts (with_value o go)
gained_with_value tb ts t o go h next = subst (λ x. Gained tb ts (with_value x go)) (sym h.1) (next h.0 h.2)

gained_with_values : (tb : Table) (ts us : List ℕ) (o : Option Values) (go : Values → Run) → AllHeld tb o us → ((vs : Values) → HaveTypes tb us vs → Gained tb ts (go vs)) → Gained tb ts (with_values o go)
gained_with_values tb ts us o go h next = subst (λ x. Gained tb ts (with_values x go)) (sym h.1) (next h.0 h.2)

gained_operated : (tb : Table) (t : ℕ) (o : Operated) (p : Place) (k : ℕ) → IsOf tb t o → Gained tb (t ∷ []) (operated o p k)
gained_operated tb t (Is v) p k h = (h, tt)
gained_operated tb t (Fails kind) p k h = tt

gained_operation : (tb : Table) → IsBare tb 1 0 → IsBare tb 1 1 → (o : Operator) (p : Place) (k : ℕ) (v w : Value) → HasType tb 0 w → Gained tb (result_of o ∷ []) (operation o p k v w)
gained_operation tb f t o p k (Int i) (Int j) g = gained_operated tb (result_of o) (operate o i j) p k (operate_of tb f t o i j g)
gained_operation tb f t o p k (Int i) (Node c vs) g = tt
gained_operation tb f t o p k (Node c vs) w g = tt

gained_clause : (tb : Table) (ts : List ℕ) (o : Option (List Binding)) (go : List Binding → Run) (other : Run) → ((bs : List Binding) → o ≡ Some bs → Gained tb ts (go bs)) → Gained tb ts other → Gained tb ts (if_matches o go other)
gained_clause tb ts None go other h g = g
gained_clause tb ts (Some bs) go other h g = h bs refl

-- what calls give is of its types
abbrev pub CallsGain : Program → Calls → Type 0
CallsGain p calls = (d g : ℕ) (vs : Values) (k : ℕ) (f : Instance) → slice_get p.instances g ≡ Some f → HaveTypes p.types (parameter_types f) vs → Gained p.types f.results (calls d g vs k)

call_gained : (p : Program) (calls : Calls) → CallsGain p calls → (g : ℕ) (ts : List ℕ) (vs : Values) (d k : ℕ) → g < length p.instances → ts ≡ (head (world p) g).results → HaveTypes p.types (head (world p) g).parameters vs → Gained p.types ts (calls d g vs k)
call_gained p calls gain g ts vs d k lt e h =
    let x = slice_get_there p.instances g lt in
    let is : head (world p) g ≡ head_of x.0 = head_is p.instances g x.0 x.1 in
    let results : x.0.results ≡ ts = sym (e ∙ ap (λ (y : Head). y.results) is) in
    let typed : HaveTypes p.types (parameter_types x.0) vs = subst (λ (y : Head). HaveTypes p.types y.parameters vs) is h in
    subst (λ us. Gained p.types us (calls d g vs k)) results (gain d g vs k x.0 x.1 typed)

module _ (p : Program) (well : IsFormed p) (calls : Calls) (gain : CallsGain p calls) (words : ℕ) where
  mutual
    pub expression_gained : (s : Scope) (b : Bool) (e : Expression) (ts : List ℕ) (tail : Bool) (d : ℕ) (env : Environment) (k : ℕ) → FormedExpression p e → Types true (world p) s b e ts → EnvHas p.types s env → Gained p.types ts (eval calls words e tail d env k)
    expression_gained s b (Give a) ts tail d env k f h has =
        gained_with_value p.types ts h.0 (argument_value env a) _ (argument_has p s env has b a h.0 f h.2)
        (λ v g. subst (λ us. HaveTypes p.types us (More v End)) (sym h.1) (g, tt))
    expression_gained s b (Tuple q as') ts tail d env k f h has =
        gained_with_values p.types ts ts (argument_values env as') _ (arguments_have p s env has b as' ts f h.1) (λ vs g. g)
    expression_gained s b (Operation o q l r) ts tail d env k f h has =
        gained_with_value p.types ts 0 (argument_value env l) _ (argument_has p s env has true l 0 f.0 h.1)
        (λ v g. gained_with_value p.types ts 0 (argument_value env r) _ (argument_has p s env has true r 0 f.1 h.2)
        (λ u i. subst (λ us. Gained p.types us (operation o q k v u)) (sym h.0) (gained_operation p.types well.false_is_bare well.true_is_bare o q k v u i)))
    expression_gained s b (Call g n q as') ts tail d env k f h has =
        gained_with_values p.types ts (head (world p) g).parameters (argument_values env as') _ (arguments_have p s env has true as' (head (world p) g).parameters f.1 h.1)
        (λ vs i. gained_counted p.types ts k _ (λ left. gained_in_frame p.types ts tail words d _ (λ free. call_gained p calls gain g ts vs free left f.0 h.0 i)))
    expression_gained s b (Match ds u q a r body cs) ts tail d env k f h has =
        gained_with_value p.types ts h.0 (argument_value env a) _ (argument_has p s env has false a h.0 f.0 h.2)
        (λ v g. gained_clause p.types ts (matching r v) _ _
        (λ bs e. block_gained (s ++ bound_by (world p) (Some h.0) r) b body ts tail d (bind_matched env bs) k f.1 h.4 (pattern_has (world p) h.0 r v bs s env h.3 g e has))
        (clauses_gained s h.0 cs v ts tail d env k f.2 h.5 has g))
    expression_gained s b (Nested e) ts tail d env k f h has = block_gained s b e ts tail d env k f h has

    block_gained : (s : Scope) (b : Bool) (e : Block) (ts : List ℕ) (tail : Bool) (d : ℕ) (env : Environment) (k : ℕ) → FormedBlock p e → TypesBlock true (world p) s b e ts → EnvHas p.types s env → Gained p.types ts (eval_block calls words e tail d env k)
    block_gained s b (Last e) ts tail d env k f h has = expression_gained s b e ts tail d env k f h has
    block_gained s b (Let bs e rest) ts tail d env k f h has =
        gained_go_on p.types h.0 ts (eval calls words e false d env k).answer _ (expression_gained s (all_annotated bs) e h.0 false d env k f.0 h.1 has)
        (λ vs left g. block_gained (s ++ entries bs (map Some h.0)) b rest ts tail d (bind_binders env bs vs) left f.1 h.3 (let_has p.types s env bs h.0 vs has h.2 g))

    clauses_gained : (s : Scope) (t : ℕ) (cs : Clauses) (v : Value) (ts : List ℕ) (tail : Bool) (d : ℕ) (env : Environment) (k : ℕ) → FormedClauses p cs → TypesClauses true (world p) s t cs ts → EnvHas p.types s env → HasType p.types t v → Gained p.types ts (eval_clauses calls words cs v tail d env k)
    clauses_gained s t NoClauses v ts tail d env k f h has g = tt
    clauses_gained s t (MoreClauses r body cs) v ts tail d env k f h has g =
        gained_clause p.types ts (matching r v) _ _
        (λ bs i. block_gained (s ++ bound_by (world p) (Some t) r) true body ts tail d (bind_matched env bs) k f.0 h.1 (pattern_has (world p) t r v bs s env h.0 g i has))
        (clauses_gained s t cs v ts tail d env k f.1 h.2 has g)

body_gained : (p : Program) → IsFormed p → (calls : Calls) → CallsGain p calls → (f : Instance) → Typed true (world p) f → FormedBlock p f.body → (d : ℕ) (vs : Values) (k : ℕ) → HaveTypes p.types (parameter_types f) vs → Gained p.types f.results (body_run calls d (Some f) vs k)
body_gained p well calls gain f h b d vs k g =
    block_gained p well calls gain (frame_words f) (parameter_entries f.params f.binders) true f.body f.results true d (bind_binders nothing_bound f.binders vs) k b h.3
    (parameters_have p.types [] nothing_bound f.params f.binders vs (nothing_has p.types) g)

pub calls_gained : (p : Program) → IsFormed p → IsFilled p → (m : ℕ) → CallsGain p (calls_of p m)
calls_gained p well typed zero d g vs k f e h = tt
calls_gained p well typed (suc m) d g vs k f e h =
    subst (λ o. Gained p.types f.results (body_run (calls_of p m) d o vs k)) (sym e)
    (body_gained p well (calls_of p m) (calls_gained p well typed m) f (typed_at (world p) p.instances g f typed e)
    (formed_at p p.instances g f well.bodies e).body d vs k h)

-- what an instance gives on arguments of its types is of its types
pub meaning_gained : (p : Program) (i : ℕ) (f : Instance) (vs : Values) (n d : ℕ) → IsFormed p → IsFilled p → slice_get p.instances i ≡ Some f → HaveTypes p.types (parameter_types f) vs → IsTypedAnswer p.types f.results (flat_meaning p i vs n d).answer
unfolding flat_meaning
meaning_gained p i f vs n d well typed e h = gained_counted p.types f.results n _ (λ left. calls_gained p well typed n d i vs left f e h)
