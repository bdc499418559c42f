-- Each instance means what its function means: registers, arguments, matches and evaluations are the same, by induction
-- on the trees, and calls by induction on those that are nested.
use Rattle.std.proofs.Common.{◌≡◌, ℕ, zero, suc, ◌+◌, Bool, true, false, List, [], ◌∷◌, length, Option, Some, None, slice_get, if◌then◌else◌, ◌==◌, refl, sym, ap, ◌∙◌}
use Rattle.fip_trees.specs.fip_language.Values.{Value, Int, Node, Values, End, More}
use Rattle.fip_trees.specs.fip_language.Core as C
use Rattle.fip_trees.specs.fip_language.Core.{Function, Core}
use Rattle.fip_trees.specs.fip_language.Declarations.{Declared, constructor_of}
use Rattle.fip_trees.specs.fip_language.Matching.{Binding, same_int, both}
use Rattle.fip_trees.specs.fip_language.Matching as CP
use Rattle.fip_trees.specs.fip_language.Registers as R
use Rattle.fip_trees.specs.fip_language.Statics.{Closed, Closeds, ClosedInt, ClosedName, callee}
use Rattle.fip_trees.specs.fip_language.Statics as S
use Rattle.fip_trees.specs.fip_language.Meaning.{Run, Gives, Out, ends, entered, then_with, counted, in_frame, Environment, nothing_bound, bind, bind_matched, more_of, with_value, with_values, operation, if_matches}
use Rattle.fip_trees.specs.fip_language.Meaning as CM
use Rattle.fip_trees.proofs.fip_language.Bound.{with_value-same, with_values-same, in_frame-same, if_matches-same}
use Rattle.fip_trees.specs.declared.program.Binder.{Binder}
use Rattle.fip_trees.specs.Tree as T
use Rattle.instance_semantics.proofs.Same.{sum_same, more_same, both_same, go_on_same, counted_same}
use Rattle.instance_semantics.specs.Registers as F
use Rattle.instance_semantics.specs.Matching as FP
use Rattle.instance_semantics.specs.Meaning as FM
use Rattle.instance_semantics.specs.Meaning.{flat_meaning}
use Rattle.instance_semantics.specs.Specialised.{IsNumber, IsArgument, AreArguments, SameNumbers, SameParameters, IsPattern, ArePatterns, IsExpression, IsBlock, AreClauses, IsInstance, IsSpecialised}

-- ---- registers

module _ (core : Core) where
  mutual
    argument_registers : (a : C.Argument) (b : T.Argument) → IsArgument core a b → F.registers_of_argument b ≡ R.registers_of_argument a
    argument_registers (C.Variable x n p) b h = ap F.registers_of_argument h.2
    argument_registers (C.Literal i p) b h = ap F.registers_of_argument h.1
    argument_registers (C.Constructor n p as') b h = ap F.registers_of_argument h.6 ∙ ap suc (arguments_registers as' h.5 h.8)

    arguments_registers : (as' : C.Arguments) (bs : T.Arguments) → AreArguments core as' bs → F.registers_of_arguments bs ≡ R.registers_of_arguments as'
    arguments_registers C.NoArguments bs h = ap F.registers_of_arguments h
    arguments_registers (C.MoreArguments a as') bs h = ap F.registers_of_arguments h.2 ∙ sum_same _ _ _ _ (argument_registers a h.0 h.3) (arguments_registers as' h.1 h.4)

  mutual
    pattern_registers : (p : C.Pattern) (q : T.Pattern) → IsPattern core p q → F.registers_of_pattern q ≡ R.registers_of_pattern p
    pattern_registers (C.BinderPattern b) q h = ap F.registers_of_pattern h.1
    pattern_registers (C.LiteralPattern i p) q h = ap F.registers_of_pattern h.1
    pattern_registers (C.ConstructorPattern n p ps) q h = ap F.registers_of_pattern h.6 ∙ ap suc (patterns_registers ps h.5 h.8)

    patterns_registers : (ps : C.Patterns) (qs : T.Patterns) → ArePatterns core ps qs → F.registers_of_patterns qs ≡ R.registers_of_patterns ps
    patterns_registers C.NoPatterns qs h = ap F.registers_of_patterns h
    patterns_registers (C.MorePatterns p ps) qs h = ap F.registers_of_patterns h.2 ∙ sum_same _ _ _ _ (pattern_registers p h.0 h.3) (patterns_registers ps h.1 h.4)

same_length : (bs : List C.Binder) (cs : List Binder) → SameNumbers bs cs → length cs ≡ length bs
same_length [] [] h = refl
same_length [] (c ∷ cs) h = absurd h
same_length (b ∷ bs) [] h = absurd h
same_length (b ∷ bs) (c ∷ cs) h = ap suc (same_length bs cs h.1)

module _ (core : Core) (numbered : List Closed) (here : S.Instance) where
  mutual
    expression_registers : (e : C.Expression) (f : T.Expression) → IsExpression core numbered here e f → F.registers_of_expression f ≡ R.registers_of_expression e
    expression_registers (C.Give a) f h = ap F.registers_of_expression h.1 ∙ argument_registers core a h.0 h.2
    expression_registers (C.Tuple p as') f h = ap F.registers_of_expression h.2 ∙ arguments_registers core as' h.1 h.3
    expression_registers (C.Operation o p l r) f h = ap F.registers_of_expression h.2 ∙ sum_same _ _ _ _ (argument_registers core l h.0 h.3) (argument_registers core r h.1 h.4)
    expression_registers (C.Call name p ws as') f h = ap F.registers_of_expression h.4 ∙ arguments_registers core as' h.3 h.6
    expression_registers (C.Match ds p a cs) f h =
        ap F.registers_of_expression h.7 ∙ sum_same _ _ _ _ (argument_registers core a h.3 h.8) (clauses_registers cs (T.MoreClauses h.4 h.5 h.6) h.9)
    expression_registers (C.Nested b) f h = ap F.registers_of_expression h.1 ∙ block_registers b h.0 h.2

    block_registers : (b : C.Block) (d : T.Block) → IsBlock core numbered here b d → F.registers_of_block d ≡ R.registers_of_block b
    block_registers (C.Last e) d h = ap F.registers_of_block h.1 ∙ expression_registers e h.0 h.2
    block_registers (C.Let bs e rest) d h =
        ap F.registers_of_block h.3 ∙ sum_same _ _ _ _ (same_length bs h.0 h.4) (sum_same _ _ _ _ (expression_registers e h.1 h.5) (block_registers rest h.2 h.6))

    clauses_registers : (cs : C.Clauses) (ds : T.Clauses) → AreClauses core numbered here cs ds → F.registers_of_clauses ds ≡ R.registers_of_clauses cs
    clauses_registers C.NoClauses ds h = ap F.registers_of_clauses h
    clauses_registers (C.MoreClauses p b cs) ds h =
        ap F.registers_of_clauses h.3 ∙ sum_same _ _ _ _ (pattern_registers core p h.0 h.4) (sum_same _ _ _ _ (block_registers b h.1 h.5) (clauses_registers cs h.2 h.6))

  frame_same : (d : T.Instance) → IsInstance core numbered here d → F.frame_words d ≡ R.frame_words here.function
  frame_same d h = ap (λ n. n + 2) (sum_same _ _ _ _ h.parameters (sum_same _ _ _ _ h.credits (block_registers here.function.body d.body h.body)))

-- ---- values and matches

module _ (core : Core) where
  node_some : (o : Option Declared) (c : ℕ) (vs : Option Values) → IsNumber o c → FM.node_of c vs ≡ CM.node_of o vs
  node_some None c vs h = absurd h
  node_some (Some k) c None h = refl
  node_some (Some k) c (Some vs) h = ap (λ n. Some (Node n vs)) (sym h)

  mutual
    argument_same : (env : Environment) (a : C.Argument) (b : T.Argument) → IsArgument core a b → FM.argument_value env b ≡ CM.argument_value core env a
    argument_same env (C.Variable x n p) b h = ap (FM.argument_value env) h.2
    argument_same env (C.Literal i p) b h = ap (FM.argument_value env) h.1
    argument_same env (C.Constructor n p as') b h =
        ap (FM.argument_value env) h.6 ∙ ap (FM.node_of h.2) (arguments_same env as' h.5 h.8) ∙ node_some (constructor_of core n) h.2 (CM.argument_values core env as') h.7

    arguments_same : (env : Environment) (as' : C.Arguments) (bs : T.Arguments) → AreArguments core as' bs → FM.argument_values env bs ≡ CM.argument_values core env as'
    arguments_same env C.NoArguments bs h = ap (FM.argument_values env) h
    arguments_same env (C.MoreArguments a as') bs h = ap (FM.argument_values env) h.2 ∙ more_same _ _ _ _ (argument_same env a h.0 h.3) (arguments_same env as' h.1 h.4)

  is_constructor_same : (o : Option Declared) (k c : ℕ) → IsNumber o k → (k == c) ≡ CP.is_constructor o c
  is_constructor_same None k c h = absurd h
  is_constructor_same (Some d) k c h = ap (λ n. n == c) (sym h)

  mutual
    matching_same : (p : C.Pattern) (q : T.Pattern) (v : Value) → IsPattern core p q → FP.matching q v ≡ CP.matching core p v
    matching_same (C.BinderPattern b) q v h = ap (λ r. FP.matching r v) h.1 ∙ ap (λ n. Some (record { binder = n; value = v } ∷ [])) (sym h.2)
    matching_same (C.LiteralPattern i p) q (Int j) h = ap (λ r. FP.matching r (Int j)) h.1
    matching_same (C.LiteralPattern i p) q (Node c vs) h = ap (λ r. FP.matching r (Node c vs)) h.1
    matching_same (C.ConstructorPattern n p ps) q (Int j) h = ap (λ r. FP.matching r (Int j)) h.6
    matching_same (C.ConstructorPattern n p ps) q (Node c vs) h =
        ap (λ r. FP.matching r (Node c vs)) h.6
        ∙ ap (λ x. if h.2 == c then x else None) (matching_all_same ps h.5 vs h.8)
        ∙ ap (λ b. if b then CP.matching_all core ps vs else None) (is_constructor_same (constructor_of core n) h.2 c h.7)

    matching_all_same : (ps : C.Patterns) (qs : T.Patterns) (vs : Values) → ArePatterns core ps qs → FP.matching_all qs vs ≡ CP.matching_all core ps vs
    matching_all_same C.NoPatterns qs End h = ap (λ r. FP.matching_all r End) h
    matching_all_same C.NoPatterns qs (More v vs) h = ap (λ r. FP.matching_all r (More v vs)) h
    matching_all_same (C.MorePatterns p ps) qs End h = ap (λ r. FP.matching_all r End) h.2
    matching_all_same (C.MorePatterns p ps) qs (More v vs) h = ap (λ r. FP.matching_all r (More v vs)) h.2 ∙ both_same _ _ _ _ (matching_same p h.0 v h.3) (matching_all_same ps h.1 vs h.4)

binders_same : (bs : List C.Binder) (cs : List Binder) (env : Environment) (vs : Values) → SameNumbers bs cs → FM.bind_binders env cs vs ≡ CM.bind_binders env bs vs
binders_same [] [] env vs h = refl
binders_same [] (c ∷ cs) env vs h = absurd h
binders_same (b ∷ bs) [] env vs h = absurd h
binders_same (b ∷ bs) (c ∷ cs) env End h = refl
binders_same (b ∷ bs) (c ∷ cs) env (More v vs) h = ap (λ n. FM.bind_binders (bind env n v) cs vs) (sym h.0) ∙ binders_same bs cs (bind env b.number v) vs h.1

parameters_same : (bs : List C.Parameter) (cs : List Binder) (env : Environment) (vs : Values) → SameParameters bs cs → FM.bind_binders env cs vs ≡ CM.bind_parameters env bs vs
parameters_same [] [] env vs h = refl
parameters_same [] (c ∷ cs) env vs h = absurd h
parameters_same (b ∷ bs) [] env vs h = absurd h
parameters_same (b ∷ bs) (c ∷ cs) env End h = refl
parameters_same (b ∷ bs) (c ∷ cs) env (More v vs) h = ap (λ n. FM.bind_binders (bind env n v) cs vs) (sym h.0) ∙ parameters_same bs cs (bind env b.binder.number v) vs h.1

-- ---- evaluations

-- calls of instances, and of the functions that they stand for, are the same
abbrev Related : List Closed → FM.Calls → CM.Calls → Type 0
Related numbered c' c = (d g : ℕ) (vs : Values) (k : ℕ) (x : Closed) → slice_get numbered g ≡ Some x → c' d g vs k ≡ c d x vs k

module _ (core : Core) (numbered : List Closed) (here : S.Instance) (c' : FM.Calls) (c : CM.Calls) (related : Related numbered c' c) where
  abbrev words : ℕ
  words = R.frame_words here.function

  clause_same : (p : C.Pattern) (q : T.Pattern) (v : Value) (go go' : List Binding → Run) (r s : Run) → IsPattern core p q → ((bs : List Binding) → go bs ≡ go' bs) → r ≡ s → if_matches (FP.matching q v) go r ≡ if_matches (CP.matching core p v) go' s
  clause_same p q v go go' r s h same e = ap (λ o. if_matches o go r) (matching_same core p q v h) ∙ if_matches-same (CP.matching core p v) go go' r s same e

  mutual
    expression_same : (e : C.Expression) (f : T.Expression) (tail : Bool) (d : ℕ) (env : Environment) (k : ℕ) → IsExpression core numbered here e f → FM.eval c' words f tail d env k ≡ CM.eval core c here e tail d env k
    expression_same (C.Give a) f tail d env k h =
        ap (λ x. FM.eval c' words x tail d env k) h.1 ∙ ap (λ o. with_value o (λ v. ends (Gives (More v End) k))) (argument_same core env a h.0 h.2)
    expression_same (C.Tuple p as') f tail d env k h =
        ap (λ x. FM.eval c' words x tail d env k) h.2 ∙ ap (λ o. with_values o (λ vs. ends (Gives vs k))) (arguments_same core env as' h.1 h.3)
    expression_same (C.Operation o p l r) f tail d env k h =
        ap (λ x. FM.eval c' words x tail d env k) h.2
        ∙ ap (λ x. with_value x (λ v. with_value (FM.argument_value env h.1) (λ u. operation o p k v u))) (argument_same core env l h.0 h.3)
        ∙ with_value-same (CM.argument_value core env l) _ _ (λ v. ap (λ x. with_value x (λ u. operation o p k v u)) (argument_same core env r h.1 h.4))
    expression_same (C.Call name p ws as') f tail d env k h =
        ap (λ x. FM.eval c' words x tail d env k) h.4
        ∙ ap (λ x. with_values x (λ vs. counted k (λ left. in_frame tail words d (λ free. c' free h.0 vs left)))) (arguments_same core env as' h.3 h.6)
        ∙ with_values-same (CM.argument_values core env as') _ _ (λ vs. counted_same k _ _ (λ left. in_frame-same tail words d _ _ (λ free. related free h.0 vs left (callee core here name ws) h.5)))
    expression_same (C.Match ds p a cs) f tail d env k h =
        ap (λ x. FM.eval c' words x tail d env k) h.7
        ∙ ap (λ x. with_value x (λ v. FM.eval_clauses c' words (T.MoreClauses h.4 h.5 h.6) v tail d env k)) (argument_same core env a h.3 h.8)
        ∙ with_value-same (CM.argument_value core env a) _ _ (λ v. clauses_same cs (T.MoreClauses h.4 h.5 h.6) v tail d env k h.9)
    expression_same (C.Nested b) f tail d env k h = ap (λ x. FM.eval c' words x tail d env k) h.1 ∙ block_same b h.0 tail d env k h.2

    block_same : (b : C.Block) (e : T.Block) (tail : Bool) (d : ℕ) (env : Environment) (k : ℕ) → IsBlock core numbered here b e → FM.eval_block c' words e tail d env k ≡ CM.eval_block core c here b tail d env k
    block_same (C.Last e) f tail d env k h = ap (λ x. FM.eval_block c' words x tail d env k) h.1 ∙ expression_same e h.0 tail d env k h.2
    block_same (C.Let bs e rest) f tail d env k h =
        ap (λ x. FM.eval_block c' words x tail d env k) h.3
        ∙ go_on_same _ _ _ _ (expression_same e h.1 false d env k h.5)
        (λ vs left. ap (λ r. FM.eval_block c' words h.2 tail d r left) (binders_same bs h.0 env vs h.4) ∙ block_same rest h.2 tail d (CM.bind_binders env bs vs) left h.6)

    clauses_same : (cs : C.Clauses) (ds : T.Clauses) (v : Value) (tail : Bool) (d : ℕ) (env : Environment) (k : ℕ) → AreClauses core numbered here cs ds → FM.eval_clauses c' words ds v tail d env k ≡ CM.eval_clauses core c here cs v tail d env k
    clauses_same C.NoClauses ds v tail d env k h = ap (λ x. FM.eval_clauses c' words x v tail d env k) h
    clauses_same (C.MoreClauses p b cs) ds v tail d env k h =
        ap (λ x. FM.eval_clauses c' words x v tail d env k) h.3
        ∙ clause_same p h.0 v _ _ _ _ h.4 (λ bs. block_same b h.1 tail d (bind_matched env bs) k h.5) (clauses_same cs h.2 v tail d env k h.6)

-- ---- calls

body_same : (core : Core) (numbered : List Closed) (c' : FM.Calls) (c : CM.Calls) → Related numbered c' c → (f : Function) (given : Closeds) (i : T.Instance) → IsInstance core numbered (record { function = f; given = given }) i → (d : ℕ) (vs : Values) (k : ℕ) → FM.body_run c' d (Some i) vs k ≡ CM.body_run core c d (Some f) given vs k
body_same core numbered c' c related f given i h d vs k =
    let here : S.Instance = record { function = f; given = given } in
    ap (λ n. entered n (FM.eval_block c' n i.body true d (FM.bind_binders nothing_bound i.binders vs) k)) (frame_same core numbered here i h)
    ∙ ap (λ env. entered (R.frame_words f) (FM.eval_block c' (R.frame_words f) i.body true d env k)) (parameters_same f.parameters i.binders nothing_bound vs h.binders)
    ∙ ap (entered (R.frame_words f)) (block_same core numbered here c' c related f.body i.body true d (CM.bind_parameters nothing_bound f.parameters vs) k h.body)

instance_same : (core : Core) (p : T.Program) (numbered : List Closed) → IsSpecialised core p numbered → (c' : FM.Calls) (c : CM.Calls) → Related numbered c' c → (d g : ℕ) (vs : Values) (k : ℕ) (x : Closed) → slice_get numbered g ≡ Some x → FM.body_run c' d (slice_get p.instances g) vs k ≡ CM.function_run core c d x vs k
instance_same core p numbered s c' c related d g vs k ClosedInt e = absurd (s.no_int g e)
instance_same core p numbered s c' c related d g vs k (ClosedName name given) e =
    let z = s.functions g name given e in
    ap (λ o. FM.body_run c' d o vs k) z.there
    ∙ body_same core numbered c' c related z.function given z.instance z.is d vs k
    ∙ ap (λ o. CM.body_run core c d o given vs k) (sym z.declared)

calls_related : (core : Core) (p : T.Program) (numbered : List Closed) → IsSpecialised core p numbered → (m : ℕ) → Related numbered (FM.calls_of p m) (CM.calls_of core m)
calls_related core p numbered s zero d g vs k x e = refl
calls_related core p numbered s (suc m) d g vs k x e =
    instance_same core p numbered s (FM.calls_of p m) (CM.calls_of core m) (calls_related core p numbered s m) d g vs k x e

-- an instance means what its function means
pub means : (core : Core) (p : T.Program) (numbered : List Closed) (i : ℕ) (name : C.Name) (given : Closeds) (vs : Values) (n d : ℕ) → IsSpecialised core p numbered → slice_get numbered i ≡ Some (ClosedName name given) → flat_meaning p i vs n d ≡ CM.meaning core name given vs n d
unfolding flat_meaning CM.meaning
means core p numbered i name given vs n d s e = counted_same n _ _ (λ left. calls_related core p numbered s n d i vs left (ClosedName name given) e)
