-- Where the body is typed no rule is broken, and the types found are its types.
use Rattle.std.proofs.Common.{◌≡◌, ℕ, suc, ◌≤◌, refl, sym, ap, subst, ◌∙◌, List, [], ◌∷◌, ◌++◌, length, Option, Some, None, Bool, true, false, not, arith}
use Rattle.std.specs.Prelude.{◌==◌, ◌&&◌, nat_lt, map, is_none, is_some}
use Rattle.fip_language.specs.declared.Place.{Place}
use Rattle.fip_language.specs.declared.Operator.{Operator}
use Rattle.fip_language.specs.declared.rule.Rule.TheVariants.{E30, E32, E33, E34}
use Rattle.fip_language.specs.declared.limits.TheConstants.{MOST_RESULTS}
use Rattle.fip_trees.specs.declared.program.Binder.{Binder}
use Rattle.fip_trees.specs.declared.program.TupleResult.{TupleResult}
use Rattle.fip_trees.specs.Tree.{Name, Argument, Variable, Literal, Constructor, Arguments, NoArguments, MoreArguments, Pattern, BinderPattern, LiteralPattern, ConstructorPattern, Patterns, NoPatterns, MorePatterns, Expression, Give, Tuple, Operation, Call, Match, Nested, Block, Last, Let, Clauses, NoClauses, MoreClauses, Instance, count, count_patterns}
use Rattle.type_check.specs.Found.{others, usable, some_differ, known, differ, wanted_next}
use Rattle.type_check.specs.Binders.{all_annotated, annotations, entries}
use Rattle.type_check.specs.Scope.{Scope}
use Rattle.type_check.specs.World.{World, plain_type, chosen, is_of, fields_of, field_types, field_count, head, result_of}
use Rattle.type_check.specs.Typing.{bound_by, Annotated, Bind, HasType, HaveTypes, IsPattern, ArePatterns, Types, TypesBlock, TypesClauses, parameter_scope, AreShort, Typed}
use Rattle.type_check.specs.Faults.{broken, when, variable_faults, count_faults, found_argument, found_arguments, found, found_block, constructor_faults, argument_faults, arguments_faults, pattern_faults, patterns_faults, results_faults, binders_faults, faults, block_faults, clauses_faults, tuples_faults, results_place, header_faults, instance_faults}
use Rattle.fip_trees.specs.declared.least.Violation.{Violation}
use Rattle.type_check.proofs.Basics.{same_test, at_most_test, length_map, usable_is, as_many_is, chosen_is, bind_annotated}
use Rattle.type_check.proofs.Sound.{Fields, Pattern_fields, After, many_known, tuple_found}
use Rattle.fip_language.proofs.Facts.{and_both, and_false_last as and_false}

-- ---- no faults

pub no_append : (xs ys : List Violation) → xs ≡ [] → ys ≡ [] → xs ++ ys ≡ []
no_append [] ys h g = g
no_append (x ∷ xs) ys h g = absurd (cc)

no_test : (b : Bool) (v : Violation) → b ≡ true → when (not b) v ≡ []
no_test b v h = ap (λ c. when (not c) v) h

no_when : (b : Bool) (v : Violation) → b ≡ false → when b v ≡ []
no_when b v h = ap (λ c. when c v) h

no_count : (m : ℕ) (ts : List ℕ) (v : Violation) → m ≡ length ts → when (not (m == length (map Some ts))) v ≡ []
no_count m ts v h = no_test (m == length (map Some ts)) v (same_test m (length (map Some ts)) (h ∙ sym (length_map ts)))

counts : (i m k : ℕ) (n : Name) (p : Place) → m ≡ k → count_faults i m k n p ≡ []
counts i m k n p h = no_test (m == k) (broken E33 p i n) (same_test m k h)

-- ---- arguments

mutual
  pub has_argument : (f : Bool) (w : World) (i : ℕ) (s : Scope) (a : Argument) (t : ℕ) → HasType f w s true a t → argument_faults w i s (Some (Some t)) a ≡ []
  has_argument f w i s (Variable x n p) t h = subst (λ o. variable_faults i (Some (Some t)) o n p ≡ []) (sym h) (no_test (t == t) (broken E30 p i []) (same_test t t refl))
  has_argument f w i s (Literal v p) t h = no_test (t == 0) (broken E30 p i []) (same_test t 0 h)
  has_argument f w i s (Constructor u d c n p as') t h =
      let o = chosen w (Some (Some t)) d in
      let g = has_arguments f w i s as' (fields_of w t c) h.2 in
      let q : Fields w i s d c n p as' (Some t) = no_append (count_faults i (count as') (length (fields_of w t c)) n p) (arguments_faults w i s true (map Some (fields_of w t c)) as') (counts i (count as') (length (fields_of w t c)) n p g.0) g.1 in
      let r = subst (λ o. Fields w i s d c n p as' o) (sym (chosen_is w t d h.1)) q in
      no_append (constructor_faults w i (Some (Some t)) d n p) (count_faults i (count as') (field_count w o d c) n p ++ arguments_faults w i s true (field_types w o c) as') (no_test (is_of w t d) (broken E30 p i []) h.1) r

  pub has_arguments : (f : Bool) (w : World) (i : ℕ) (s : Scope) (as' : Arguments) (ts : List ℕ) → HaveTypes f w s true as' ts → (count as' ≡ length ts) × (arguments_faults w i s true (map Some ts) as' ≡ [])
  has_arguments f w i s NoArguments [] h = (refl, refl)
  has_arguments f w i s NoArguments (t ∷ ts) h = absurd h
  has_arguments f w i s (MoreArguments a as') [] h = absurd h
  has_arguments f w i s (MoreArguments a as') (t ∷ ts) h =
      let g = has_arguments f w i s as' ts h.1 in
      (ap suc g.0, no_append (argument_faults w i s (Some (Some t)) a) (arguments_faults w i s true (map Some ts) as') (has_argument f w i s a t h.0) g.1)

known_whole : (m : Option ℕ) (t : ℕ) (v : Violation) → m ≡ Some t → when (is_none m) v ≡ []
known_whole None t v h = absurd (cc)
known_whole (Some u) t v h = refl

pub finds_argument : (f : Bool) (w : World) (i : ℕ) (s : Scope) (a : Argument) (t : ℕ) → HasType f w s false a t → (argument_faults w i s None a ≡ []) × (found_argument w s None a ≡ Some t)
finds_argument f w i s (Variable x n p) t h = (subst (λ o. variable_faults i None o n p ≡ []) (sym h) refl, ap known h)
finds_argument f w i s (Literal v p) t h = (refl, ap (λ (t : ℕ). Some t) (sym h))
finds_argument f w i s (Constructor u d c n p as') t h =
    let o = plain_type w d in
    let g = has_arguments f w i s as' (fields_of w t c) h.2 in
    let q : Fields w i s d c n p as' (Some t) = no_append (count_faults i (count as') (length (fields_of w t c)) n p) (arguments_faults w i s true (map Some (fields_of w t c)) as') (counts i (count as') (length (fields_of w t c)) n p g.0) g.1 in
    let r = subst (λ o. Fields w i s d c n p as' o) (sym h.1) q in
    (no_append (constructor_faults w i None d n p) (count_faults i (count as') (field_count w o d c) n p ++ arguments_faults w i s true (field_types w o c) as') (known_whole (plain_type w d) t (broken E32 p i n) h.1) r, h.1)

pub finds_arguments : (f : Bool) (w : World) (i : ℕ) (s : Scope) (as' : Arguments) (us : List ℕ) (ts : List (Option ℕ)) → HaveTypes f w s false as' us → (count as' ≡ length us) × (arguments_faults w i s false ts as' ≡ []) × (found_arguments w s false ts as' ≡ map Some us)
finds_arguments f w i s NoArguments [] ts h = (refl, refl, refl)
finds_arguments f w i s NoArguments (u ∷ us) ts h = absurd h
finds_arguments f w i s (MoreArguments a as') [] ts h = absurd h
finds_arguments f w i s (MoreArguments a as') (u ∷ us) ts h =
    let x = finds_argument f w i s a u h.0 in
    let y = finds_arguments f w i s as' us (others ts) h.1 in
    (ap suc y.0, no_append (argument_faults w i s None a) (arguments_faults w i s false (others ts) as') x.0 y.1, (let e = x.1 in let g = y.2 in rw (e, g) refl))

-- ---- patterns

mutual
  pub has_pattern : (f : Bool) (w : World) (i : ℕ) (q : Pattern) (t : ℕ) → IsPattern f w t q → pattern_faults w i (Some t) q ≡ []
  has_pattern f w i (BinderPattern b) t h = refl
  has_pattern f w i (LiteralPattern v p) t h = no_test (t == 0) (broken E30 p i []) (same_test t 0 h)
  has_pattern f w i (ConstructorPattern u d c n p ps) t h =
      let o = chosen w (Some (Some t)) d in
      let g = has_patterns f w i ps (fields_of w t c) h.2 in
      let q : Pattern_fields w i d c n p ps (Some t) = no_append (count_faults i (count_patterns ps) (length (fields_of w t c)) n p) (patterns_faults w i (map Some (fields_of w t c)) ps) (counts i (count_patterns ps) (length (fields_of w t c)) n p g.0) g.1 in
      let r = subst (λ o. Pattern_fields w i d c n p ps o) (sym (chosen_is w t d h.1)) q in
      no_append (constructor_faults w i (Some (Some t)) d n p) (count_faults i (count_patterns ps) (field_count w o d c) n p ++ patterns_faults w i (field_types w o c) ps) (no_test (is_of w t d) (broken E30 p i []) h.1) r

  pub has_patterns : (f : Bool) (w : World) (i : ℕ) (ps : Patterns) (ts : List ℕ) → ArePatterns f w ts ps → (count_patterns ps ≡ length ts) × (patterns_faults w i (map Some ts) ps ≡ [])
  has_patterns f w i NoPatterns [] h = (refl, refl)
  has_patterns f w i NoPatterns (t ∷ ts) h = absurd h
  has_patterns f w i (MorePatterns q ps) [] h = absurd h
  has_patterns f w i (MorePatterns q ps) (t ∷ ts) h =
      let g = has_patterns f w i ps ts h.1 in
      (ap suc g.0, no_append (pattern_faults w i (Some t) q) (patterns_faults w i (map Some ts) ps) (has_pattern f w i q t h.0) g.1)

-- ---- results

none_differ : (ts : List ℕ) → some_differ (map Some ts) ts ≡ false
none_differ [] = refl
none_differ (t ∷ ts) = let e = same_test t t refl in rw (e, none_differ ts) refl

results_fit : (i : ℕ) (p : Place) (us ts : List ℕ) → us ≡ ts → results_faults i p true (map Some us) ts ≡ []
results_fit i p us ts e = subst (λ us. results_faults i p true (map Some us) ts ≡ []) (sym e) (no_append (when (not (length ts == length (map Some ts))) (broken E34 p i [])) (when ((length ts == length (map Some ts)) && some_differ (map Some ts) ts) (broken E30 p i [])) (no_count (length ts) ts (broken E34 p i []) refl) (no_when ((length ts == length (map Some ts)) && some_differ (map Some ts) ts) (broken E30 p i []) (and_false (length ts == length (map Some ts)) (some_differ (map Some ts) ts) (none_differ ts))))

results_many : (i : ℕ) (p : Place) (us : List (Option ℕ)) (ts : List ℕ) → (length ts == length us) ≡ true → results_faults i p false us ts ≡ []
results_many i p us ts e = no_append (when (not (length ts == length us)) (broken E34 p i [])) [] (no_test (length ts == length us) (broken E34 p i []) e) refl

-- ---- expressions that have no block

-- what an expression is, where its types are only found
abbrev pub Finds : World → ℕ → Scope → Expression → List ℕ → List (Option ℕ) → Type 0
Finds w i s e us ts = (faults w i s false ts e ≡ []) × (found w s false ts e ≡ map Some us)

has_give : (f : Bool) (w : World) (i : ℕ) (s : Scope) (a : Argument) (us : List ℕ) → Types f w s true (Give a) us → faults w i s true (map Some us) (Give a) ≡ []
has_give f w i s a us h = subst (λ us. faults w i s true (map Some us) (Give a) ≡ []) (sym h.1) (has_argument f w i s a h.0 h.2)

finds_give : (f : Bool) (w : World) (i : ℕ) (s : Scope) (a : Argument) (t : ℕ) (ts : List (Option ℕ)) → HasType f w s false a t → 1 ≡ length ts → Finds w i s (Give a) (t ∷ []) ts
finds_give f w i s a t [] h e = absurd (omega arith)
finds_give f w i s a t (u ∷ []) h e = let r = finds_argument f w i s a t h in (r.0, (let x = r.1 in rw x refl))
finds_give f w i s a t (u ∷ v ∷ ts) h e = absurd (omega arith)

tuple_faults : (w : World) (i : ℕ) (s : Scope) (b : Bool) (p : Place) (as' : Arguments) (ts : List (Option ℕ)) → count as' ≤ MOST_RESULTS → (count as' == length ts) ≡ true → arguments_faults w i s b (usable b (count as') ts) as' ≡ [] → faults w i s b ts (Tuple p as') ≡ []
tuple_faults w i s b p as' ts l e h =
    no_append (when (nat_lt MOST_RESULTS (count as')) (broken E34 p i [])) (when (not (count as' == length ts)) (broken E34 p i []) ++ arguments_faults w i s b (usable b (count as') ts) as') (no_when (nat_lt MOST_RESULTS (count as')) (broken E34 p i []) (at_most_test (count as') MOST_RESULTS l))
    (no_append (when (not (count as' == length ts)) (broken E34 p i [])) (arguments_faults w i s b (usable b (count as') ts) as') (no_test (count as' == length ts) (broken E34 p i []) e) h)

has_tuple : (f : Bool) (w : World) (i : ℕ) (s : Scope) (p : Place) (as' : Arguments) (us : List ℕ) → Types f w s true (Tuple p as') us → faults w i s true (map Some us) (Tuple p as') ≡ []
has_tuple f w i s p as' us h =
    let g = has_arguments f w i s as' us h.1 in
    let e = same_test (count as') (length (map Some us)) (g.0 ∙ sym (length_map us)) in
    tuple_faults w i s true p as' (map Some us) h.0 e (subst (λ ts. arguments_faults w i s true ts as' ≡ []) (sym (usable_is (count as') (map Some us) e)) g.1)

finds_tuple : (f : Bool) (w : World) (i : ℕ) (s : Scope) (p : Place) (as' : Arguments) (us : List ℕ) (ts : List (Option ℕ)) → Types f w s false (Tuple p as') us → length us ≡ length ts → Finds w i s (Tuple p as') us ts
finds_tuple f w i s p as' us ts h e =
    let g = finds_arguments f w i s as' us [] h.1 in
    let q = same_test (count as') (length ts) (g.0 ∙ e) in
    (tuple_faults w i s false p as' ts h.0 q g.1, tuple_found w s as' ts us q (sym g.0) g.2)

operation_faults : (f : Bool) (w : World) (i : ℕ) (s : Scope) (b : Bool) (o : Operator) (p : Place) (l r : Argument) (ts : List (Option ℕ)) → HasType f w s true l 0 → HasType f w s true r 0 → results_faults i p b ts (result_of o ∷ []) ≡ [] → faults w i s b ts (Operation o p l r) ≡ []
operation_faults f w i s b o p l r ts h g e =
    no_append (argument_faults w i s (Some (Some 0)) l) (argument_faults w i s (Some (Some 0)) r ++ results_faults i p b ts (result_of o ∷ [])) (has_argument f w i s l 0 h)
    (no_append (argument_faults w i s (Some (Some 0)) r) (results_faults i p b ts (result_of o ∷ [])) (has_argument f w i s r 0 g) e)

call_faults : (f : Bool) (w : World) (i : ℕ) (s : Scope) (b : Bool) (g : ℕ) (n : Name) (p : Place) (as' : Arguments) (ts : List (Option ℕ)) → HaveTypes f w s true as' (head w g).parameters → results_faults i p b ts (head w g).results ≡ [] → faults w i s b ts (Call g n p as') ≡ []
call_faults f w i s b g n p as' ts h e =
    let x = has_arguments f w i s as' (head w g).parameters h in
    no_append (when (not (count as' == length (head w g).parameters)) (broken E33 p i n)) (arguments_faults w i s true (map Some (head w g).parameters) as' ++ results_faults i p b ts (head w g).results) (no_test (count as' == length (head w g).parameters) (broken E33 p i n) (same_test (count as') (length (head w g).parameters) x.0))
    (no_append (arguments_faults w i s true (map Some (head w g).parameters) as') (results_faults i p b ts (head w g).results) x.1 e)

-- ---- lets

no_binders_faults : (i : ℕ) (bs : List Binder) (ts : List (Option ℕ)) → binders_faults i true bs ts ≡ []
no_binders_faults i [] ts = refl
no_binders_faults i (b ∷ bs) ts = no_binders_faults i bs (others ts)

annotation_is : (o : Option ℕ) (t : ℕ) → is_some o ≡ true → Annotated o t → o ≡ Some t
annotation_is None t h g = absurd (cc)
annotation_is (Some u) t h g = ap (λ (x : ℕ). Some x) g

annotations_are : (f : Bool) (bs : List Binder) (us : List ℕ) → all_annotated bs ≡ true → Bind f bs us → annotations bs ≡ map Some us
annotations_are f [] [] h g = refl
annotations_are f [] (u ∷ us) h g = absurd g
annotations_are f (b ∷ bs) [] h g = absurd g
annotations_are f (b ∷ bs) (u ∷ us) h g =
    let a = and_both (is_some b.annotation) (all_annotated bs) h in
    let x = annotation_is b.annotation u a.0 g.0.0 in
    let y = annotations_are f bs us a.1 g.1 in
    rw (x, y) refl

annotation_fits : (o : Option ℕ) (t : ℕ) → Annotated o t → differ o (Some t) ≡ false
annotation_fits None t h = refl
annotation_fits (Some u) t h = ap not (same_test u t h)

binders_fit : (f : Bool) (i : ℕ) (bs : List Binder) (us : List ℕ) → Bind f bs us → (length us ≡ length (annotations bs)) × (binders_faults i false bs (map Some us) ≡ [])
binders_fit f i [] [] h = (refl, refl)
binders_fit f i [] (u ∷ us) h = absurd h
binders_fit f i (b ∷ bs) [] h = absurd h
binders_fit f i (b ∷ bs) (u ∷ us) h =
    let r = binders_fit f i bs us h.1 in
    (ap suc r.0, no_append (when (differ b.annotation (Some u)) (broken E30 b.place i [])) (binders_faults i false bs (map Some us)) (no_when (differ b.annotation (Some u)) (broken E30 b.place i []) (annotation_fits b.annotation u h.0.0)) r.1)

-- a let's bound expression and binders break no rule, and their scope is that of the types
abbrev Fine_bound : World → ℕ → Scope → Bool → List Binder → Expression → List ℕ → Type 0
Fine_bound w i s c bs e us = (faults w i s c (annotations bs) e ≡ []) × (binders_faults i c bs (found w s c (annotations bs) e) ≡ []) × (entries bs (found w s c (annotations bs) e) ≡ entries bs (map Some us))

fine_bound : (f : Bool) (w : World) (i : ℕ) (s : Scope) (bs : List Binder) (e : Expression) (us : List ℕ) → (Types f w s true e us → faults w i s true (map Some us) e ≡ []) → (Types f w s false e us → length us ≡ length (annotations bs) → Finds w i s e us (annotations bs)) → (c : Bool) → all_annotated bs ≡ c → Types f w s c e us → Bind f bs us → Fine_bound w i s c bs e us
fine_bound f w i s bs e us has finds true q h g =
    let a = annotations_are f bs us q g in
    (subst (λ ts. faults w i s true ts e ≡ []) (sym a) (has h), no_binders_faults i bs (found w s true (annotations bs) e), (bind_annotated bs us (found w s true (annotations bs) e) a).2)
fine_bound f w i s bs e us has finds false q h g =
    let b = binders_fit f i bs us g in
    let r = finds h b.0 in
    (r.0, subst (λ ts. binders_faults i false bs ts ≡ []) (sym r.1) b.1, ap (λ ts. entries bs ts) r.1)

let_faults : (w : World) (i : ℕ) (s : Scope) (b : Bool) (ts : List (Option ℕ)) (bs : List Binder) (e : Expression) (rest : Block) (us : List ℕ) → Fine_bound w i s (all_annotated bs) bs e us → block_faults w i (s ++ entries bs (map Some us)) b ts rest ≡ [] → block_faults w i s b ts (Let bs e rest) ≡ []
let_faults w i s b ts bs e rest us x h =
    let fs = found w s (all_annotated bs) (annotations bs) e in
    no_append (faults w i s (all_annotated bs) (annotations bs) e) (binders_faults i (all_annotated bs) bs fs ++ block_faults w i (s ++ entries bs fs) b ts rest) x.0
    (no_append (binders_faults i (all_annotated bs) bs fs) (block_faults w i (s ++ entries bs fs) b ts rest) x.1 (subst (λ r. block_faults w i (s ++ r) b ts rest ≡ []) (sym x.2) h))

-- ---- matches

match_faults : (f : Bool) (w : World) (i : ℕ) (s : Scope) (b : Bool) (ts : List (Option ℕ)) (kd : Bool) (u : ℕ) (p : Place) (a : Argument) (q : Pattern) (body : Block) (cs : Clauses) (t : ℕ) → HasType f w s false a t → IsPattern f w t q → After w i s b ts q body cs (wanted_next b ts (found_block w (s ++ bound_by w (found_argument w s None a) q) b ts body)) (Some t) → faults w i s b ts (Match kd u p a q body cs) ≡ []
match_faults f w i s b ts kd u p a q body cs t h g r =
    let o = found_argument w s None a in
    let next = wanted_next b ts (found_block w (s ++ bound_by w o q) b ts body) in
    let x = finds_argument f w i s a t h in
    let y = subst (λ o. pattern_faults w i o q ≡ []) (sym x.1) (has_pattern f w i q t g) in
    let z = subst (λ o. After w i s b ts q body cs next o) (sym x.1) r in
    no_append (argument_faults w i s None a) (pattern_faults w i o q ++ (block_faults w i (s ++ bound_by w o q) b ts body ++ clauses_faults w i s o next cs)) x.0
    (no_append (pattern_faults w i o q) (block_faults w i (s ++ bound_by w o q) b ts body ++ clauses_faults w i s o next cs) y z)

abbrev Finds_block : World → ℕ → Scope → Block → List ℕ → List (Option ℕ) → Type 0
Finds_block w i s d us ts = (block_faults w i s false ts d ≡ []) × (found_block w s false ts d ≡ map Some us)

mutual
  pub has : (f : Bool) (w : World) (i : ℕ) (s : Scope) (e : Expression) (us : List ℕ) → Types f w s true e us → faults w i s true (map Some us) e ≡ []
  has f w i s (Give a) us h = has_give f w i s a us h
  has f w i s (Tuple p as') us h = has_tuple f w i s p as' us h
  has f w i s (Operation o p l r) us h = operation_faults f w i s true o p l r (map Some us) h.1 h.2 (results_fit i p us (result_of o ∷ []) h.0)
  has f w i s (Call g n p as') us h = call_faults f w i s true g n p as' (map Some us) h.1 (results_fit i p us (head w g).results h.0)
  has f w i s (Match kd u p a q body cs) us h =
      match_faults f w i s true (map Some us) kd u p a q body cs h.0 h.2 h.3
      (no_append (block_faults w i (s ++ bound_by w (Some h.0) q) true (map Some us) body) (clauses_faults w i s (Some h.0) (map Some us) cs) (has_block f w i (s ++ bound_by w (Some h.0) q) body us h.4) (has_clauses f w i s h.0 cs us h.5))
  has f w i s (Nested d) us h = has_block f w i s d us h

  pub finds : (f : Bool) (w : World) (i : ℕ) (s : Scope) (e : Expression) (us : List ℕ) (ts : List (Option ℕ)) → Types f w s false e us → length us ≡ length ts → Finds w i s e us ts
  finds f w i s (Give a) us ts h e = subst (λ us. length us ≡ length ts → Finds w i s (Give a) us ts) (sym h.1) (λ e. finds_give f w i s a h.0 ts h.2 e) e
  finds f w i s (Tuple p as') us ts h e = finds_tuple f w i s p as' us ts h e
  finds f w i s (Operation o p l r) us ts h e =
      let q = same_test 1 (length ts) (sym (ap length h.0) ∙ e) in
      (operation_faults f w i s false o p l r ts h.1 h.2 (results_many i p ts (result_of o ∷ []) q), as_many_is (Some (result_of o) ∷ []) ts q ∙ sym (ap (λ us. map Some us) h.0))
  finds f w i s (Call g n p as') us ts h e =
      let q = same_test (length (head w g).results) (length ts) (sym (ap length h.0) ∙ e) in
      (call_faults f w i s false g n p as' ts h.1 (results_many i p ts (head w g).results q), many_known (head w g).results ts q ∙ sym (ap (λ us. map Some us) h.0))
  finds f w i s (Match kd u p a q body cs) us ts h e =
      let x = finds_argument f w i s a h.0 h.2 in
      let y = finds_block f w i (s ++ bound_by w (Some h.0) q) body us ts h.4 e in
      let n : found_block w (s ++ bound_by w (found_argument w s None a) q) false ts body ≡ map Some us = ap (λ o. found_block w (s ++ bound_by w o q) false ts body) x.1 ∙ y.1 in
      let c = subst (λ n. clauses_faults w i s (Some h.0) n cs ≡ []) (sym n) (has_clauses f w i s h.0 cs us h.5) in
      (match_faults f w i s false ts kd u p a q body cs h.0 h.2 h.3 (no_append (block_faults w i (s ++ bound_by w (Some h.0) q) false ts body) (clauses_faults w i s (Some h.0) (found_block w (s ++ bound_by w (found_argument w s None a) q) false ts body) cs) y.0 c), n)
  finds f w i s (Nested d) us ts h e = finds_block f w i s d us ts h e

  pub has_block : (f : Bool) (w : World) (i : ℕ) (s : Scope) (d : Block) (us : List ℕ) → TypesBlock f w s true d us → block_faults w i s true (map Some us) d ≡ []
  has_block f w i s (Last e) us h = has f w i s e us h
  has_block f w i s (Let bs e rest) us h =
      let x = fine_bound f w i s bs e h.0 (λ g. has f w i s e h.0 g) (λ g l. finds f w i s e h.0 (annotations bs) g l) (all_annotated bs) refl h.1 h.2 in
      let_faults w i s true (map Some us) bs e rest h.0 x (has_block f w i (s ++ entries bs (map Some h.0)) rest us h.3)

  pub finds_block : (f : Bool) (w : World) (i : ℕ) (s : Scope) (d : Block) (us : List ℕ) (ts : List (Option ℕ)) → TypesBlock f w s false d us → length us ≡ length ts → Finds_block w i s d us ts
  finds_block f w i s (Last e) us ts h l = finds f w i s e us ts h l
  finds_block f w i s (Let bs e rest) us ts h l =
      let x = fine_bound f w i s bs e h.0 (λ g. has f w i s e h.0 g) (λ g l. finds f w i s e h.0 (annotations bs) g l) (all_annotated bs) refl h.1 h.2 in
      let y = finds_block f w i (s ++ entries bs (map Some h.0)) rest us ts h.3 l in
      (let_faults w i s false ts bs e rest h.0 x y.0, ap (λ r. found_block w (s ++ r) false ts rest) x.2 ∙ y.1)

  pub has_clauses : (f : Bool) (w : World) (i : ℕ) (s : Scope) (t : ℕ) (cs : Clauses) (us : List ℕ) → TypesClauses f w s t cs us → clauses_faults w i s (Some t) (map Some us) cs ≡ []
  has_clauses f w i s t NoClauses us h = refl
  has_clauses f w i s t (MoreClauses q body cs) us h =
      no_append (pattern_faults w i (Some t) q) (block_faults w i (s ++ bound_by w (Some t) q) true (map Some us) body ++ clauses_faults w i s (Some t) (map Some us) cs) (has_pattern f w i q t h.0)
      (no_append (block_faults w i (s ++ bound_by w (Some t) q) true (map Some us) body) (clauses_faults w i s (Some t) (map Some us) cs) (has_block f w i (s ++ bound_by w (Some t) q) body us h.1) (has_clauses f w i s t cs us h.2))

are_short : (i : ℕ) (ts : List TupleResult) → AreShort ts → tuples_faults i ts ≡ []
are_short i [] h = refl
are_short i (t ∷ ts) h = no_append (when (nat_lt MOST_RESULTS t.count) (broken E34 t.place i [])) (tuples_faults i ts) (no_when (nat_lt MOST_RESULTS t.count) (broken E34 t.place i []) (at_most_test t.count MOST_RESULTS h.0)) (are_short i ts h.1)

pub unbroken : (f : Bool) (w : World) (i : ℕ) (d : Instance) → Typed f w d → instance_faults w i d ≡ []
unbroken f w i d h =
    let l = no_when (nat_lt MOST_RESULTS (length d.results)) (broken E34 (results_place d) i []) (at_most_test (length d.results) MOST_RESULTS h.0) in
    no_append (header_faults i d) (block_faults w i (parameter_scope d) true (map Some d.results) d.body)
    (no_append (when (nat_lt MOST_RESULTS (length d.results)) (broken E34 (results_place d) i [])) (tuples_faults i d.signature_tuples) l (are_short i d.signature_tuples h.1))
    (has_block f w i (parameter_scope d) d.body d.results h.3)
