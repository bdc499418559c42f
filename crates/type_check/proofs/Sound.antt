-- Where no rule is broken the body is typed, and so is the filled tree, with its slots.
use Rattle.std.proofs.Common.{◌≡◌, ℕ, suc, ◌≤◌, refl, sym, ap, subst, ◌∙◌, List, [], ◌∷◌, ◌++◌, length, Option, Some, None, Bool, true, false, not, arith}
use Rattle.std.specs.Prelude.{◌==◌, ◌&&◌, nat_lt, map}
use Rattle.fip_language.specs.declared.Place.{Place}
use Rattle.fip_language.specs.declared.Operator.{Operator}
use Rattle.fip_language.specs.declared.rule.Rule.TheVariants.{E30, E32, E33, E34}
use Rattle.fip_base.specs.declared.plain.Param.{Param}
use Rattle.fip_language.specs.declared.limits.TheConstants.{MOST_RESULTS}
use Rattle.fip_trees.specs.declared.program.Binder.{Binder}
use Rattle.fip_trees.specs.declared.program.TupleResult.{TupleResult}
use Rattle.fip_trees.specs.Tree.{Name, Argument, Variable, Literal, Constructor, Arguments, NoArguments, MoreArguments, Pattern, BinderPattern, LiteralPattern, ConstructorPattern, Patterns, NoPatterns, MorePatterns, Expression, Give, Tuple, Operation, Call, Match, Nested, Block, Last, Let, Clauses, NoClauses, MoreClauses, Instance, count, count_patterns, place_of}
use Rattle.type_check.specs.Found.{others, first_wanted, usable, as_many, slot, some_differ}
use Rattle.type_check.specs.Binders.{all_annotated, annotations, entries, entry}
use Rattle.type_check.specs.Scope.{Scope, of_binder}
use Rattle.type_check.specs.World.{World, plain_type, chosen, is_of, fields_of, field_types, field_count, head, result_of}
use Rattle.type_check.specs.Typing.{bound_by, bound_by_all, Bind, HasType, HaveTypes, IsPattern, ArePatterns, Types, TypesBlock, TypesClauses, parameter_entries, parameter_scope, Parameters, AreShort, Typed}
use Rattle.type_check.specs.Faults.{broken, when, count_faults, found_argument, found_arguments, found, found_block, constructor_faults, argument_faults, arguments_faults, pattern_faults, patterns_faults, results_faults, binders_faults, faults, block_faults, clauses_faults, tuples_faults, results_place, header_faults, instance_faults, fill_argument, fill_arguments, fill_binders, fill_pattern, fill_patterns, fill, fill_block, fill_clauses, fill_parameters, fill_instance}
use Rattle.type_check.proofs.Basics.{both_empty, when_empty, when_not, same, at_most, is_one, length_map, usable_is, as_many_is, Sure, sure_append, binder_sure, variable_is, variable_found, whole_is, chosen_is, count_fill, bound_fill, entries_fill, annotated_fill, same_results, annotated_all, bind_annotated, bind_found}

-- ---- arguments

abbrev pub Argument_both : World → Scope → Bool → Argument → Argument → ℕ → Type 0
Argument_both w s b a a' t = HasType false w s b a t × HasType true w s b a' t

abbrev pub Arguments_both : World → Scope → Bool → Arguments → Arguments → List ℕ → Type 0
Arguments_both w s b a a' ts = HaveTypes false w s b a ts × HaveTypes true w s b a' ts

-- a constructor's parts break no rule, where its type is o
abbrev pub Fields : World → ℕ → Scope → ℕ → ℕ → Name → Place → Arguments → Option ℕ → Type 0
Fields w i s d c n p as' o = (count_faults i (count as') (field_count w o d c) n p ++ arguments_faults w i s true (field_types w o c) as') ≡ []

-- and it is typed
abbrev pub Made : World → Scope → Bool → ℕ → ℕ → ℕ → Name → Place → Arguments → Option ℕ → Type 0
Made w s b t d c n p as' o = HasType false w s b (Constructor 0 d c n p as') t × HasType true w s b (Constructor (slot o) d c n p (fill_arguments w true (field_types w o c) as')) t

pub counted : (i m k : ℕ) (n : Name) (p : Place) → count_faults i m k n p ≡ [] → m ≡ k
counted i m k n p h = same m k (when_not (m == k) (broken E33 p i n) h)

mutual
  pub check_argument : (w : World) (i : ℕ) (s : Scope) (a : Argument) (t : ℕ) → Sure s → argument_faults w i s (Some (Some t)) a ≡ [] → Argument_both w s true a (fill_argument w (Some (Some t)) a) t
  check_argument w i s (Variable x n p) t k h = let e = variable_is i t n p (of_binder s x) (binder_sure s x k) h in (e, e)
  check_argument w i s (Literal v p) t k h = let e = same t 0 (when_not (t == 0) (broken E30 p i []) h) in (e, e)
  check_argument w i s (Constructor u d c n p as') t k h =
      let o = chosen w (Some (Some t)) d in
      let g = both_empty (constructor_faults w i (Some (Some t)) d n p) (count_faults i (count as') (field_count w o d c) n p ++ arguments_faults w i s true (field_types w o c) as') h in
      let m = when_not (is_of w t d) (broken E30 p i []) g.0 in
      let e = chosen_is w t d m in
      let f : Fields w i s d c n p as' (Some t) = subst (λ o. Fields w i s d c n p as' o) e g.1 in
      let q = both_empty (count_faults i (count as') (length (fields_of w t c)) n p) (arguments_faults w i s true (map Some (fields_of w t c)) as') f in
      let r = check_arguments w i s as' (fields_of w t c) k (counted i (count as') (length (fields_of w t c)) n p q.0) q.1 in
      let z : Made w s true t d c n p as' (chosen w (Some (Some t)) d) = subst (λ o. Made w s true t d c n p as' o) (sym e) ((tt, m, r.0), (refl, m, r.1)) in z

  pub check_arguments : (w : World) (i : ℕ) (s : Scope) (as' : Arguments) (ts : List ℕ) → Sure s → count as' ≡ length ts → arguments_faults w i s true (map Some ts) as' ≡ [] → Arguments_both w s true as' (fill_arguments w true (map Some ts) as') ts
  check_arguments w i s NoArguments [] k e h = (tt, tt)
  check_arguments w i s NoArguments (t ∷ ts) k e h = absurd (omega arith)
  check_arguments w i s (MoreArguments a as') [] k e h = absurd (omega arith)
  check_arguments w i s (MoreArguments a as') (t ∷ ts) k e h =
      let g = both_empty (argument_faults w i s (Some (Some t)) a) (arguments_faults w i s true (map Some ts) as') h in
      let x = check_argument w i s a t k g.0 in
      let y = check_arguments w i s as' ts k (omega arith) g.1 in
      ((x.0, y.0), (x.1, y.1))

pub infer_argument : (w : World) (i : ℕ) (s : Scope) (a : Argument) → Sure s → argument_faults w i s None a ≡ [] → (t : ℕ) × (found_argument w s None a ≡ Some t) × HasType false w s false a t × HasType true w s false (fill_argument w None a) t
infer_argument w i s (Variable x n p) k h = let e = variable_found i n p (of_binder s x) (binder_sure s x k) h in (e.0, e.1, e.2, e.2)
infer_argument w i s (Literal v p) k h = (0, refl, refl, refl)
infer_argument w i s (Constructor u d c n p as') k h =
    let o = plain_type w d in
    let g = both_empty (constructor_faults w i None d n p) (count_faults i (count as') (field_count w o d c) n p ++ arguments_faults w i s true (field_types w o c) as') h in
    let m = whole_is (plain_type w d) (broken E32 p i n) g.0 in
    let t = m.0 in
    let e = m.1 in
    let f : Fields w i s d c n p as' (Some t) = subst (λ o. Fields w i s d c n p as' o) e g.1 in
    let q = both_empty (count_faults i (count as') (length (fields_of w t c)) n p) (arguments_faults w i s true (map Some (fields_of w t c)) as') f in
    let r = check_arguments w i s as' (fields_of w t c) k (counted i (count as') (length (fields_of w t c)) n p q.0) q.1 in
    let z : Made w s false t d c n p as' (plain_type w d) = subst (λ o. Made w s false t d c n p as' o) (sym e) ((tt, e, r.0), (refl, e, r.1)) in (t, e, z.0, z.1)

pub infer_arguments : (w : World) (i : ℕ) (s : Scope) (as' : Arguments) (ts : List (Option ℕ)) → Sure s → arguments_faults w i s false ts as' ≡ [] → (us : List ℕ) × (length us ≡ count as') × (found_arguments w s false ts as' ≡ map Some us) × HaveTypes false w s false as' us × HaveTypes true w s false (fill_arguments w false ts as') us
infer_arguments w i s NoArguments ts k h = ([], refl, refl, tt, tt)
infer_arguments w i s (MoreArguments a as') ts k h =
    let g = both_empty (argument_faults w i s None a) (arguments_faults w i s false (others ts) as') h in
    let x = infer_argument w i s a k g.0 in
    let y = infer_arguments w i s as' (others ts) k g.1 in
    (x.0 ∷ y.0, ap suc y.1, (let e = x.1 in let f = y.2 in rw (e, f) refl), (x.2, y.3), (x.3, y.4))

-- ---- patterns

abbrev pub Pattern_fields : World → ℕ → ℕ → ℕ → Name → Place → Patterns → Option ℕ → Type 0
Pattern_fields w i d c n p ps o = (count_faults i (count_patterns ps) (field_count w o d c) n p ++ patterns_faults w i (field_types w o c) ps) ≡ []

abbrev pub Pattern_made : World → ℕ → ℕ → ℕ → Name → Place → Patterns → Option ℕ → Type 0
Pattern_made w t d c n p ps o = IsPattern false w t (ConstructorPattern 0 d c n p ps) × IsPattern true w t (ConstructorPattern (slot o) d c n p (fill_patterns w (field_types w o c) ps)) × Sure (bound_by_all w (field_types w o c) ps)

mutual
  pub check_pattern : (w : World) (i : ℕ) (q : Pattern) (t : ℕ) → pattern_faults w i (Some t) q ≡ [] → IsPattern false w t q × IsPattern true w t (fill_pattern w (Some t) q) × Sure (bound_by w (Some t) q)
  check_pattern w i (BinderPattern b) t h = (tt, refl, ((t, refl), tt))
  check_pattern w i (LiteralPattern v p) t h = let e = same t 0 (when_not (t == 0) (broken E30 p i []) h) in (e, e, tt)
  check_pattern w i (ConstructorPattern u d c n p ps) t h =
      let o = chosen w (Some (Some t)) d in
      let g = both_empty (constructor_faults w i (Some (Some t)) d n p) (count_faults i (count_patterns ps) (field_count w o d c) n p ++ patterns_faults w i (field_types w o c) ps) h in
      let m = when_not (is_of w t d) (broken E30 p i []) g.0 in
      let e = chosen_is w t d m in
      let f : Pattern_fields w i d c n p ps (Some t) = subst (λ o. Pattern_fields w i d c n p ps o) e g.1 in
      let q = both_empty (count_faults i (count_patterns ps) (length (fields_of w t c)) n p) (patterns_faults w i (map Some (fields_of w t c)) ps) f in
      let r = check_patterns w i ps (fields_of w t c) (counted i (count_patterns ps) (length (fields_of w t c)) n p q.0) q.1 in
      let z : Pattern_made w t d c n p ps (chosen w (Some (Some t)) d) = subst (λ o. Pattern_made w t d c n p ps o) (sym e) ((tt, m, r.0), (refl, m, r.1), r.2) in z

  pub check_patterns : (w : World) (i : ℕ) (ps : Patterns) (ts : List ℕ) → count_patterns ps ≡ length ts → patterns_faults w i (map Some ts) ps ≡ [] → ArePatterns false w ts ps × ArePatterns true w ts (fill_patterns w (map Some ts) ps) × Sure (bound_by_all w (map Some ts) ps)
  check_patterns w i NoPatterns [] e h = (tt, tt, tt)
  check_patterns w i NoPatterns (t ∷ ts) e h = absurd (omega arith)
  check_patterns w i (MorePatterns a as') [] e h = absurd (omega arith)
  check_patterns w i (MorePatterns a as') (t ∷ ts) e h =
      let g = both_empty (pattern_faults w i (Some t) a) (patterns_faults w i (map Some ts) as') h in
      let x = check_pattern w i a t g.0 in
      let y = check_patterns w i as' ts (omega arith) g.1 in
      ((x.0, y.0), (x.1, y.1), sure_append (bound_by w (Some t) a) (bound_by_all w (map Some ts) as') x.2 y.2)

-- ---- results that are known

results_same : (i : ℕ) (p : Place) (us ts : List ℕ) → results_faults i p true (map Some us) ts ≡ [] → us ≡ ts
results_same i p us ts h =
    let g = both_empty (when (not (length ts == length (map Some us))) (broken E34 p i [])) (when ((length ts == length (map Some us)) && some_differ (map Some us) ts) (broken E30 p i [])) h in
    let e = when_not (length ts == length (map Some us)) (broken E34 p i []) g.0 in
    let f = when_empty ((length ts == length (map Some us)) && some_differ (map Some us) ts) (broken E30 p i []) g.1 in
    same_results us ts (same (length ts) (length (map Some us)) e ∙ length_map us) (subst (λ b. (b && some_differ (map Some us) ts) ≡ false) e f)

results_found : (i : ℕ) (p : Place) (us : List (Option ℕ)) (ts : List ℕ) → results_faults i p false us ts ≡ [] → (length ts == length us) ≡ true
results_found i p us ts h =
    let g = both_empty (when (not (length ts == length us)) (broken E34 p i [])) [] h in when_not (length ts == length us) (broken E34 p i []) g.0

-- ---- one argument as an expression

abbrev pub Checked : World → Scope → Expression → List ℕ → Type 0
Checked w s e us = Types false w s true e us × Types true w s true (fill w s true (map Some us) e) us

pub record Inferred (w : World) (s : Scope) (e : Expression) (ts : List (Option ℕ)) : Type 0 where
  pub types : List ℕ
  pub many : length types ≡ length ts
  pub found_is : found w s false ts e ≡ map Some types
  pub typed : Types false w s false e types
  pub filled_is : Types true w s false (fill w s false ts e) types

check_give : (w : World) (i : ℕ) (s : Scope) (a : Argument) (us : List ℕ) → Sure s → faults w i s true (map Some us) (Give a) ≡ [] → Checked w s (Give a) us
check_give w i s a [] k h = absurd (cc)
check_give w i s a (u ∷ []) k h = let r = check_argument w i s a u k h in ((u, refl, r.0), (u, refl, r.1))
check_give w i s a (u ∷ v ∷ us) k h =
    let g = both_empty (when (not (1 == suc (suc (length (map Some us))))) (broken E34 (place_of a) i [])) (argument_faults w i s (first_wanted true (usable true 1 (Some u ∷ Some v ∷ map Some us))) a) h in
    absurd (is_one (length (map Some us)) (when_not (1 == suc (suc (length (map Some us)))) (broken E34 (place_of a) i []) g.0))

infer_give : (w : World) (i : ℕ) (s : Scope) (a : Argument) (ts : List (Option ℕ)) → Sure s → faults w i s false ts (Give a) ≡ [] → Inferred w s (Give a) ts
infer_give w i s a [] k h = absurd (cc)
infer_give w i s a (t ∷ []) k h = let r = infer_argument w i s a k h in record { types = r.0 ∷ []; many = refl; found_is = (let e = r.1 in rw e refl); typed = (r.0, refl, r.2); filled_is = (r.0, refl, r.3) }
infer_give w i s a (t ∷ v ∷ ts) k h =
    let g = both_empty (when (not (1 == suc (suc (length ts)))) (broken E34 (place_of a) i [])) (argument_faults w i s None a) h in
    absurd (is_one (length ts) (when_not (1 == suc (suc (length ts))) (broken E34 (place_of a) i []) g.0))

-- ---- tuples

check_tuple : (w : World) (i : ℕ) (s : Scope) (p : Place) (as' : Arguments) (us : List ℕ) → Sure s → faults w i s true (map Some us) (Tuple p as') ≡ [] → Checked w s (Tuple p as') us
check_tuple w i s p as' us k h =
    let g = both_empty (when (nat_lt MOST_RESULTS (count as')) (broken E34 p i [])) (when (not (count as' == length (map Some us))) (broken E34 p i []) ++ arguments_faults w i s true (usable true (count as') (map Some us)) as') h in
    let f = both_empty (when (not (count as' == length (map Some us))) (broken E34 p i [])) (arguments_faults w i s true (usable true (count as') (map Some us)) as') g.1 in
    let e = when_not (count as' == length (map Some us)) (broken E34 p i []) f.0 in
    let l = at_most (count as') MOST_RESULTS (when_empty (nat_lt MOST_RESULTS (count as')) (broken E34 p i []) g.0) in
    let q = usable_is (count as') (map Some us) e in
    let r = check_arguments w i s as' us k (same (count as') (length (map Some us)) e ∙ length_map us) (subst (λ ts. arguments_faults w i s true ts as' ≡ []) q f.1) in (
      (l, r.0),
      (subst (λ n. n ≤ MOST_RESULTS) (sym (count_fill w true (usable true (count as') (map Some us)) as')) l, subst (λ ts. HaveTypes true w s true (fill_arguments w true ts as') us) (sym q) r.1),
    )

pub many_known : (us : List ℕ) (ts : List (Option ℕ)) → (length us == length ts) ≡ true → as_many (map Some us) ts ≡ map Some us
many_known us ts e = as_many_is (map Some us) ts (ap (λ n. n == length ts) (length_map us) ∙ e)

pub tuple_found : (w : World) (s : Scope) (as' : Arguments) (ts : List (Option ℕ)) (us : List ℕ) → (count as' == length ts) ≡ true → length us ≡ count as' → found_arguments w s false [] as' ≡ map Some us → as_many (found_arguments w s false [] as') ts ≡ map Some us
tuple_found w s as' ts us e l h = ap (λ us. as_many us ts) h ∙ many_known us ts (ap (λ n. n == length ts) l ∙ e)

infer_tuple : (w : World) (i : ℕ) (s : Scope) (p : Place) (as' : Arguments) (ts : List (Option ℕ)) → Sure s → faults w i s false ts (Tuple p as') ≡ [] → Inferred w s (Tuple p as') ts
infer_tuple w i s p as' ts k h =
    let g = both_empty (when (nat_lt MOST_RESULTS (count as')) (broken E34 p i [])) (when (not (count as' == length ts)) (broken E34 p i []) ++ arguments_faults w i s false [] as') h in
    let f = both_empty (when (not (count as' == length ts)) (broken E34 p i [])) (arguments_faults w i s false [] as') g.1 in
    let e = when_not (count as' == length ts) (broken E34 p i []) f.0 in
    let l = at_most (count as') MOST_RESULTS (when_empty (nat_lt MOST_RESULTS (count as')) (broken E34 p i []) g.0) in
    let r = infer_arguments w i s as' [] k f.1 in
    record {
      types = r.0;
      many = r.1 ∙ same (count as') (length ts) e;
      found_is = tuple_found w s as' ts r.0 e r.1 r.2;
      typed = (l, r.3);
      filled_is = (subst (λ n. n ≤ MOST_RESULTS) (sym (count_fill w false [] as')) l, r.4);
    }

-- ---- operators and calls

Operands : World → Scope → Argument → Argument → Type 0
Operands w s l r = Argument_both w s true l (fill_argument w (Some (Some 0)) l) 0 × Argument_both w s true r (fill_argument w (Some (Some 0)) r) 0

check_operation : (w : World) (i : ℕ) (s : Scope) (o : Operator) (p : Place) (l r : Argument) (us : List ℕ) → Sure s → faults w i s true (map Some us) (Operation o p l r) ≡ [] → Checked w s (Operation o p l r) us
check_operation w i s o p l r us k h =
    let g = both_empty (argument_faults w i s (Some (Some 0)) l) (argument_faults w i s (Some (Some 0)) r ++ results_faults i p true (map Some us) (result_of o ∷ [])) h in
    let f = both_empty (argument_faults w i s (Some (Some 0)) r) (results_faults i p true (map Some us) (result_of o ∷ [])) g.1 in
    let x = check_argument w i s l 0 k g.0 in
    let y = check_argument w i s r 0 k f.0 in
    let e = results_same i p us (result_of o ∷ []) f.1 in
    ((e, x.0, y.0), (e, x.1, y.1))

infer_operation : (w : World) (i : ℕ) (s : Scope) (o : Operator) (p : Place) (l r : Argument) (ts : List (Option ℕ)) → Sure s → faults w i s false ts (Operation o p l r) ≡ [] → Inferred w s (Operation o p l r) ts
infer_operation w i s o p l r ts k h =
    let g = both_empty (argument_faults w i s (Some (Some 0)) l) (argument_faults w i s (Some (Some 0)) r ++ results_faults i p false ts (result_of o ∷ [])) h in
    let f = both_empty (argument_faults w i s (Some (Some 0)) r) (results_faults i p false ts (result_of o ∷ [])) g.1 in
    let x = check_argument w i s l 0 k g.0 in
    let y = check_argument w i s r 0 k f.0 in
    let e = results_found i p ts (result_of o ∷ []) f.1 in
    record {
      types = result_of o ∷ [];
      many = same 1 (length ts) e;
      found_is = as_many_is (Some (result_of o) ∷ []) ts e;
      typed = (refl, x.0, y.0);
      filled_is = (refl, x.1, y.1);
    }

check_call : (w : World) (i : ℕ) (s : Scope) (g : ℕ) (n : Name) (p : Place) (as' : Arguments) (us : List ℕ) → Sure s → faults w i s true (map Some us) (Call g n p as') ≡ [] → Checked w s (Call g n p as') us
check_call w i s g n p as' us k h =
    let x = both_empty (when (not (count as' == length (head w g).parameters)) (broken E33 p i n)) (arguments_faults w i s true (map Some (head w g).parameters) as' ++ results_faults i p true (map Some us) (head w g).results) h in
    let y = both_empty (arguments_faults w i s true (map Some (head w g).parameters) as') (results_faults i p true (map Some us) (head w g).results) x.1 in
    let r = check_arguments w i s as' (head w g).parameters k (same (count as') (length (head w g).parameters) (when_not (count as' == length (head w g).parameters) (broken E33 p i n) x.0)) y.0 in
    let e = results_same i p us (head w g).results y.1 in
    ((e, r.0), (e, r.1))

infer_call : (w : World) (i : ℕ) (s : Scope) (g : ℕ) (n : Name) (p : Place) (as' : Arguments) (ts : List (Option ℕ)) → Sure s → faults w i s false ts (Call g n p as') ≡ [] → Inferred w s (Call g n p as') ts
infer_call w i s g n p as' ts k h =
    let x = both_empty (when (not (count as' == length (head w g).parameters)) (broken E33 p i n)) (arguments_faults w i s true (map Some (head w g).parameters) as' ++ results_faults i p false ts (head w g).results) h in
    let y = both_empty (arguments_faults w i s true (map Some (head w g).parameters) as') (results_faults i p false ts (head w g).results) x.1 in
    let r = check_arguments w i s as' (head w g).parameters k (same (count as') (length (head w g).parameters) (when_not (count as' == length (head w g).parameters) (broken E33 p i n) x.0)) y.0 in
    let e = results_found i p ts (head w g).results y.1 in
    record {
      types = (head w g).results;
      many = same (length (head w g).results) (length ts) e;
      found_is = many_known (head w g).results ts e;
      typed = (refl, r.0);
      filled_is = (refl, r.1);
    }

-- ---- lets

-- the bound expression, the binders and the scope that they make
pub record Bound (w : World) (s : Scope) (c : Bool) (bs : List Binder) (e : Expression) : Type 0 where
  pub types : List ℕ
  pub typed : Types false w s c e types
  pub filled_is : Types true w s c (fill w s c (annotations bs) e) types
  pub binds : Bind false bs types
  pub binds_filled : Bind true (fill_binders (found w s c (annotations bs) e) bs) types
  pub enters : entries bs (found w s c (annotations bs) e) ≡ entries bs (map Some types)
  pub sure : Sure (entries bs (map Some types))

bound_annotated : (w : World) (s : Scope) (bs : List Binder) (e : Expression) (us : List ℕ) → annotations bs ≡ map Some us → Checked w s e us → Bound w s true bs e
bound_annotated w s bs e us a h =
    let r = bind_annotated bs us (found w s true (annotations bs) e) a in
    record {
      types = us;
      typed = h.0;
      filled_is = subst (λ ts. Types true w s true (fill w s true ts e) us) (sym a) h.1;
      binds = r.0;
      binds_filled = r.1;
      enters = r.2;
      sure = r.3;
    }

length_annotations : (bs : List Binder) → length (annotations bs) ≡ length bs
length_annotations [] = refl
length_annotations (b ∷ bs) = ap suc (length_annotations bs)

bound_found : (w : World) (i : ℕ) (s : Scope) (bs : List Binder) (e : Expression) → Inferred w s e (annotations bs) → binders_faults i false bs (found w s false (annotations bs) e) ≡ [] → Bound w s false bs e
bound_found w i s bs e h f =
    let g = subst (λ ts. binders_faults i false bs ts ≡ []) h.found_is f in
    let r = bind_found i bs h.types (h.many ∙ length_annotations bs) g in
    record {
      types = h.types;
      typed = h.typed;
      filled_is = h.filled_is;
      binds = r.0;
      binds_filled = subst (λ ts. Bind true (fill_binders ts bs) h.types) (sym h.found_is) r.1;
      enters = ap (λ ts. entries bs ts) h.found_is;
      sure = r.2;
    }

abbrev pub Rest_both : World → Bool → List (Option ℕ) → Block → List ℕ → Scope → Type 0
Rest_both w b ts rest us r = TypesBlock false w r b rest us × TypesBlock true w r b (fill_block w r b ts rest) us

-- a let, from its parts
let_both : (w : World) (s : Scope) (b : Bool) (ts : List (Option ℕ)) (bs : List Binder) (e : Expression) (rest : Block) (us : List ℕ) → (x : Bound w s (all_annotated bs) bs e) → Rest_both w b ts rest us (s ++ entries bs (found w s (all_annotated bs) (annotations bs) e)) → TypesBlock false w s b (Let bs e rest) us × TypesBlock true w s b (fill_block w s b ts (Let bs e rest)) us
let_both w s b ts bs e rest us x h =
    let fs = found w s (all_annotated bs) (annotations bs) e in
    let g = subst (λ r. TypesBlock false w (s ++ r) b rest us) x.enters h.0 in
    let f : TypesBlock true w (s ++ entries bs (map Some x.types)) b (fill_block w (s ++ entries bs fs) b ts rest) us = subst (λ r. TypesBlock true w (s ++ r) b (fill_block w (s ++ entries bs fs) b ts rest) us) x.enters h.1 in
    let q = subst (λ r. TypesBlock true w (s ++ r) b (fill_block w (s ++ entries bs fs) b ts rest) us) (sym (entries_fill (map Some x.types) fs bs)) f in
    let c = subst (λ c. Types true w s c (fill w s (all_annotated bs) (annotations bs) e) x.types) (sym (annotated_fill fs bs)) x.filled_is in
    ((x.types, x.typed, x.binds, g), (x.types, c, x.binds_filled, q))

-- ---- matches

-- the scrutinee and the first clause's pattern
pub record Scrutinee (w : World) (s : Scope) (a : Argument) (q : Pattern) : Type 0 where
  pub ty : ℕ
  pub is : found_argument w s None a ≡ Some ty
  pub typed : HasType false w s false a ty
  pub filled_is : HasType true w s false (fill_argument w None a) ty
  pub pattern : IsPattern false w ty q
  pub pattern_filled : IsPattern true w ty (fill_pattern w (Some ty) q)
  pub sure : Sure (bound_by w (Some ty) q)

scrutinee : (w : World) (i : ℕ) (s : Scope) (a : Argument) (q : Pattern) → Sure s → argument_faults w i s None a ≡ [] → pattern_faults w i (found_argument w s None a) q ≡ [] → Scrutinee w s a q
scrutinee w i s a q k h g =
    let r = infer_argument w i s a k h in
    let p = check_pattern w i q r.0 (subst (λ o. pattern_faults w i o q ≡ []) r.1 g) in
    record { ty = r.0; is = r.1; typed = r.2; filled_is = r.3; pattern = p.0; pattern_filled = p.1; sure = p.2 }

abbrev pub Clauses_both : World → Scope → ℕ → Clauses → Clauses → List ℕ → Type 0
Clauses_both w s t cs cs' us = TypesClauses false w s t cs us × TypesClauses true w s t cs' us

-- the filled match, where the scrutinee's type is o
abbrev pub Matched : World → Scope → Bool → List (Option ℕ) → Bool → Place → Argument → Pattern → Block → Clauses → List ℕ → List (Option ℕ) → Option ℕ → Type 0
Matched w s b ts kd p a q body cs us next o = Types true w s b (Match kd (slot o) p (fill_argument w None a) (fill_pattern w o q) (fill_block w (s ++ bound_by w o q) b ts body) (fill_clauses w s o next cs)) us

match_both : (w : World) (s : Scope) (b : Bool) (ts : List (Option ℕ)) (kd : Bool) (u : ℕ) (p : Place) (a : Argument) (q : Pattern) (body : Block) (cs : Clauses) (us : List ℕ) (next : List (Option ℕ)) → (x : Scrutinee w s a q) →
    TypesBlock false w (s ++ bound_by w (Some x.ty) q) b body us × TypesBlock true w (s ++ bound_by w (Some x.ty) q) b (fill_block w (s ++ bound_by w (Some x.ty) q) b ts body) us → Clauses_both w s x.ty cs (fill_clauses w s (Some x.ty) next cs) us →
    Types false w s b (Match kd u p a q body cs) us × Matched w s b ts kd p a q body cs us next (found_argument w s None a)
match_both w s b ts kd u p a q body cs us next x h g =
    let e = bound_fill w (Some x.ty) (Some x.ty) q in
    let y = subst (λ r. TypesBlock true w (s ++ r) b (fill_block w (s ++ bound_by w (Some x.ty) q) b ts body) us) (sym e) h.1 in (
      (x.ty, tt, x.typed, x.pattern, h.0, g.0),
      subst (λ o. Matched w s b ts kd p a q body cs us next o) (sym x.is) (x.ty, refl, x.filled_is, x.pattern_filled, y, g.1),
    )

clause_both : (w : World) (s : Scope) (t : ℕ) (q : Pattern) (body : Block) (us : List ℕ) → TypesBlock true w (s ++ bound_by w (Some t) q) true (fill_block w (s ++ bound_by w (Some t) q) true (map Some us) body) us → TypesBlock true w (s ++ bound_by w (Some t) (fill_pattern w (Some t) q)) true (fill_block w (s ++ bound_by w (Some t) q) true (map Some us) body) us
clause_both w s t q body us h = subst (λ r. TypesBlock true w (s ++ r) true (fill_block w (s ++ bound_by w (Some t) q) true (map Some us) body) us) (sym (bound_fill w (Some t) (Some t) q)) h

pub record Inferred_block (w : World) (s : Scope) (d : Block) (ts : List (Option ℕ)) : Type 0 where
  pub types : List ℕ
  pub many : length types ≡ length ts
  pub found_is : found_block w s false ts d ≡ map Some types
  pub typed : TypesBlock false w s false d types
  pub filled_is : TypesBlock true w s false (fill_block w s false ts d) types

-- the faults of what follows a scrutinee's type
abbrev pub After : World → ℕ → Scope → Bool → List (Option ℕ) → Pattern → Block → Clauses → List (Option ℕ) → Option ℕ → Type 0
After w i s b ts q body cs next o = (block_faults w i (s ++ bound_by w o q) b ts body ++ clauses_faults w i s o next cs) ≡ []

-- the two hypotheses of the induction are passed
bound : (w : World) (i : ℕ) (s : Scope) (bs : List Binder) (e : Expression) → ((us : List ℕ) → faults w i s true (map Some us) e ≡ [] → Checked w s e us) → (faults w i s false (annotations bs) e ≡ [] → Inferred w s e (annotations bs)) → (c : Bool) → all_annotated bs ≡ c → faults w i s c (annotations bs) e ≡ [] → binders_faults i c bs (found w s c (annotations bs) e) ≡ [] → Bound w s c bs e
bound w i s bs e check infer true q h f = let a = annotated_all bs q in bound_annotated w s bs e a.0 a.1 (check a.0 (subst (λ ts. faults w i s true ts e ≡ []) a.1 h))
bound w i s bs e check infer false q h f = bound_found w i s bs e (infer h) f

mutual
  pub check : (w : World) (i : ℕ) (s : Scope) (e : Expression) (us : List ℕ) → Sure s → faults w i s true (map Some us) e ≡ [] → Checked w s e us
  check w i s (Give a) us k h = check_give w i s a us k h
  check w i s (Tuple p as') us k h = check_tuple w i s p as' us k h
  check w i s (Operation o p l r) us k h = check_operation w i s o p l r us k h
  check w i s (Call g n p as') us k h = check_call w i s g n p as' us k h
  check w i s (Match kd u p a q body cs) us k h =
      let o = found_argument w s None a in
      let x = both_empty (argument_faults w i s None a) (pattern_faults w i o q ++ (block_faults w i (s ++ bound_by w o q) true (map Some us) body ++ clauses_faults w i s o (map Some us) cs)) h in
      let y = both_empty (pattern_faults w i o q) (block_faults w i (s ++ bound_by w o q) true (map Some us) body ++ clauses_faults w i s o (map Some us) cs) x.1 in
      let c = scrutinee w i s a q k x.0 y.0 in
      let z = both_empty (block_faults w i (s ++ bound_by w (Some c.ty) q) true (map Some us) body) (clauses_faults w i s (Some c.ty) (map Some us) cs) (subst (λ o. After w i s true (map Some us) q body cs (map Some us) o) c.is y.1) in
      match_both w s true (map Some us) kd u p a q body cs us (map Some us) c (check_block w i (s ++ bound_by w (Some c.ty) q) body us (sure_append s (bound_by w (Some c.ty) q) k c.sure) z.0) (check_clauses w i s c.ty cs us k z.1)
  check w i s (Nested d) us k h = check_block w i s d us k h

  pub infer : (w : World) (i : ℕ) (s : Scope) (e : Expression) (ts : List (Option ℕ)) → Sure s → faults w i s false ts e ≡ [] → Inferred w s e ts
  infer w i s (Give a) ts k h = infer_give w i s a ts k h
  infer w i s (Tuple p as') ts k h = infer_tuple w i s p as' ts k h
  infer w i s (Operation o p l r) ts k h = infer_operation w i s o p l r ts k h
  infer w i s (Call g n p as') ts k h = infer_call w i s g n p as' ts k h
  infer w i s (Match kd u p a q body cs) ts k h =
      let o = found_argument w s None a in
      let next = found_block w (s ++ bound_by w o q) false ts body in
      let x = both_empty (argument_faults w i s None a) (pattern_faults w i o q ++ (block_faults w i (s ++ bound_by w o q) false ts body ++ clauses_faults w i s o next cs)) h in
      let y = both_empty (pattern_faults w i o q) (block_faults w i (s ++ bound_by w o q) false ts body ++ clauses_faults w i s o next cs) x.1 in
      let c = scrutinee w i s a q k x.0 y.0 in
      let z = both_empty (block_faults w i (s ++ bound_by w (Some c.ty) q) false ts body) (clauses_faults w i s (Some c.ty) next cs) (subst (λ o. After w i s false ts q body cs next o) c.is y.1) in
      let f = infer_block w i (s ++ bound_by w (Some c.ty) q) body ts (sure_append s (bound_by w (Some c.ty) q) k c.sure) z.0 in
      let n : next ≡ map Some f.types = ap (λ o. found_block w (s ++ bound_by w o q) false ts body) c.is ∙ f.found_is in
      let r = check_clauses w i s c.ty cs f.types k (subst (λ n. clauses_faults w i s (Some c.ty) n cs ≡ []) n z.1) in
      let m = match_both w s false ts kd u p a q body cs f.types next c (f.typed, f.filled_is) (r.0, subst (λ n. TypesClauses true w s c.ty (fill_clauses w s (Some c.ty) n cs) f.types) (sym n) r.1) in
      record { types = f.types; many = f.many; found_is = n; typed = m.0; filled_is = m.1 }
  infer w i s (Nested d) ts k h = let f = infer_block w i s d ts k h in record { types = f.types; many = f.many; found_is = f.found_is; typed = f.typed; filled_is = f.filled_is }

  pub check_block : (w : World) (i : ℕ) (s : Scope) (d : Block) (us : List ℕ) → Sure s → block_faults w i s true (map Some us) d ≡ [] → TypesBlock false w s true d us × TypesBlock true w s true (fill_block w s true (map Some us) d) us
  check_block w i s (Last e) us k h = check w i s e us k h
  check_block w i s (Let bs e rest) us k h =
      let fs = found w s (all_annotated bs) (annotations bs) e in
      let g = both_empty (faults w i s (all_annotated bs) (annotations bs) e) (binders_faults i (all_annotated bs) bs fs ++ block_faults w i (s ++ entries bs fs) true (map Some us) rest) h in
      let f = both_empty (binders_faults i (all_annotated bs) bs fs) (block_faults w i (s ++ entries bs fs) true (map Some us) rest) g.1 in
      let x = bound w i s bs e (λ us h. check w i s e us k h) (λ h. infer w i s e (annotations bs) k h) (all_annotated bs) refl g.0 f.0 in
      let_both w s true (map Some us) bs e rest us x (check_block w i (s ++ entries bs fs) rest us (sure_append s (entries bs fs) k (subst (λ r. Sure r) (sym x.enters) x.sure)) f.1)

  pub infer_block : (w : World) (i : ℕ) (s : Scope) (d : Block) (ts : List (Option ℕ)) → Sure s → block_faults w i s false ts d ≡ [] → Inferred_block w s d ts
  infer_block w i s (Last e) ts k h = let f = infer w i s e ts k h in record { types = f.types; many = f.many; found_is = f.found_is; typed = f.typed; filled_is = f.filled_is }
  infer_block w i s (Let bs e rest) ts k h =
      let fs = found w s (all_annotated bs) (annotations bs) e in
      let g = both_empty (faults w i s (all_annotated bs) (annotations bs) e) (binders_faults i (all_annotated bs) bs fs ++ block_faults w i (s ++ entries bs fs) false ts rest) h in
      let f = both_empty (binders_faults i (all_annotated bs) bs fs) (block_faults w i (s ++ entries bs fs) false ts rest) g.1 in
      let x = bound w i s bs e (λ us h. check w i s e us k h) (λ h. infer w i s e (annotations bs) k h) (all_annotated bs) refl g.0 f.0 in
      let r = infer_block w i (s ++ entries bs fs) rest ts (sure_append s (entries bs fs) k (subst (λ r. Sure r) (sym x.enters) x.sure)) f.1 in
      let m = let_both w s false ts bs e rest r.types x (r.typed, r.filled_is) in
      record { types = r.types; many = r.many; found_is = r.found_is; typed = m.0; filled_is = m.1 }

  pub check_clauses : (w : World) (i : ℕ) (s : Scope) (t : ℕ) (cs : Clauses) (us : List ℕ) → Sure s → clauses_faults w i s (Some t) (map Some us) cs ≡ [] → Clauses_both w s t cs (fill_clauses w s (Some t) (map Some us) cs) us
  check_clauses w i s t NoClauses us k h = (tt, tt)
  check_clauses w i s t (MoreClauses q body cs) us k h =
      let x = both_empty (pattern_faults w i (Some t) q) (block_faults w i (s ++ bound_by w (Some t) q) true (map Some us) body ++ clauses_faults w i s (Some t) (map Some us) cs) h in
      let y = both_empty (block_faults w i (s ++ bound_by w (Some t) q) true (map Some us) body) (clauses_faults w i s (Some t) (map Some us) cs) x.1 in
      let p = check_pattern w i q t x.0 in
      let d = check_block w i (s ++ bound_by w (Some t) q) body us (sure_append s (bound_by w (Some t) q) k p.2) y.0 in
      let r = check_clauses w i s t cs us k y.1 in
      ((p.0, d.0, r.0), (p.1, clause_both w s t q body us d.1, r.1))

pub sure_parameters : (ps : List Param) (bs : List Binder) → Sure (parameter_entries ps bs)
sure_parameters [] bs = tt
sure_parameters (p ∷ ps) [] = tt
sure_parameters (p ∷ ps) (b ∷ bs) = ((p.ty, refl), sure_parameters ps bs)

-- ---- headers and instances

short : (i : ℕ) (ts : List TupleResult) → tuples_faults i ts ≡ [] → AreShort ts
short i [] h = tt
short i (t ∷ ts) h =
    let g = both_empty (when (nat_lt MOST_RESULTS t.count) (broken E34 t.place i [])) (tuples_faults i ts) h in
    (at_most t.count MOST_RESULTS (when_empty (nat_lt MOST_RESULTS t.count) (broken E34 t.place i []) g.0), short i ts g.1)

parameters_are : (ps : List Param) (bs : List Binder) → Parameters false ps bs
parameters_are [] bs = tt
parameters_are (p ∷ ps) [] = tt
parameters_are (p ∷ ps) (b ∷ bs) = (tt, parameters_are ps bs)

parameters_filled : (ps : List Param) (bs : List Binder) → Parameters true ps (fill_parameters ps bs)
parameters_filled [] bs = tt
parameters_filled (p ∷ ps) [] = tt
parameters_filled (p ∷ ps) (b ∷ bs) = (refl, parameters_filled ps bs)

parameters_same : (ps : List Param) (bs : List Binder) → parameter_entries ps (fill_parameters ps bs) ≡ parameter_entries ps bs
parameters_same [] bs = refl
parameters_same (p ∷ ps) [] = refl
parameters_same (p ∷ ps) (b ∷ bs) = ap (λ (s : Scope). entry (Some p.ty) b ∷ s) (parameters_same ps bs)

pub right : (w : World) (i : ℕ) (d : Instance) → instance_faults w i d ≡ [] → Typed false w d × Typed true w (fill_instance w d)
right w i d h =
    let g = both_empty (header_faults i d) (block_faults w i (parameter_scope d) true (map Some d.results) d.body) h in
    let q = both_empty (when (nat_lt MOST_RESULTS (length d.results)) (broken E34 (results_place d) i [])) (tuples_faults i d.signature_tuples) g.0 in
    let l = at_most (length d.results) MOST_RESULTS (when_empty (nat_lt MOST_RESULTS (length d.results)) (broken E34 (results_place d) i []) q.0) in
    let t = short i d.signature_tuples q.1 in
    let r = check_block w i (parameter_scope d) d.body d.results (sure_parameters d.params d.binders) g.1 in
    let z = subst (λ s. TypesBlock true w s true (fill_block w (parameter_scope d) true (map Some d.results) d.body) d.results) (sym (parameters_same d.params d.binders)) r.1 in
    ((l, t, parameters_are d.params d.binders, r.0), (l, t, parameters_filled d.params d.binders, z))
