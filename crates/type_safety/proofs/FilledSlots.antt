-- A program with its types filled in means what it meant before: the meaning reads no slot.
use Rattle.std.proofs.Common.{◌≡◌, ℕ, zero, suc, ◌+◌, Bool, true, false, List, [], ◌∷◌, ◌++◌, map, length, Option, Some, None, slice_get, refl, ap, ◌∙◌, ◌==◌, if◌then◌else◌}
use Rattle.match_cover.specs.fip_language.Values.{Value, Int, Node, Values, End, More}
use Rattle.match_cover.specs.fip_language.Matching.{Binding}
use Rattle.match_cover.specs.fip_language.Meaning.{Run, Environment, nothing_bound, bind, bind_matched, entered, counted, in_frame, with_value, with_values, operation, if_matches, Gives, ends}
use Rattle.match_cover.proofs.fip_language.Bound.{with_value-same, if_matches-same}
use Rattle.match_cover.specs.fip_base.declared.plain.Param.{Param}
use Rattle.match_cover.specs.fip_trees.declared.program.Binder.{Binder}
use Rattle.match_cover.specs.fip_trees.Tree.{Argument, Variable, Literal, Constructor, Arguments, NoArguments, MoreArguments, count, Pattern, BinderPattern, LiteralPattern, ConstructorPattern, Patterns, NoPatterns, MorePatterns, Expression, Give, Tuple, Operation, Call, Match, Nested, Block, Last, Let, Clauses, NoClauses, MoreClauses, Instance, Program}
use Rattle.type_check.specs.Found.{first_type, others, first_wanted, usable, wanted_next}
use Rattle.type_check.specs.Binders.{all_annotated, annotations, entries}
use Rattle.type_check.specs.Scope.{Scope}
use Rattle.type_check.specs.World.{World, world, chosen, field_types, head}
use Rattle.type_check.specs.Typing.{bound_by, parameter_scope}
use Rattle.type_check.specs.Faults.{found, found_block, found_argument, fill_argument, fill_arguments, fill_binders, fill_pattern, fill_patterns, fill, fill_block, fill_clauses, fill_parameters, fill_instance, filled}
use Rattle.instance_semantics.proofs.Same.{sum_same, more_same, both_same, go_on_same}
use Rattle.instance_semantics.specs.Registers.{registers_of_argument, registers_of_arguments, registers_of_pattern, registers_of_patterns, registers_of_expression, registers_of_block, registers_of_clauses, frame_words}
use Rattle.instance_semantics.specs.Matching.{matching, matching_all}
use Rattle.instance_semantics.specs.Meaning.{bind_binders, node_of, argument_value, argument_values, Calls, eval, eval_block, eval_clauses, body_run, calls_of, flat_meaning}

binders_length : (ts : List (Option ℕ)) (bs : List Binder) → length (fill_binders ts bs) ≡ length bs
binders_length ts [] = refl
binders_length ts (b ∷ bs) = ap suc (binders_length (others ts) bs)

binders_same : (ts : List (Option ℕ)) (bs : List Binder) (env : Environment) (vs : Values) → bind_binders env (fill_binders ts bs) vs ≡ bind_binders env bs vs
binders_same ts [] env vs = refl
binders_same ts (b ∷ bs) env End = refl
binders_same ts (b ∷ bs) env (More v vs) = binders_same (others ts) bs (bind env b.number v) vs

parameters_same : (ps : List Param) (bs : List Binder) (env : Environment) (vs : Values) → bind_binders env (fill_parameters ps bs) vs ≡ bind_binders env bs vs
parameters_same [] bs env vs = refl
parameters_same (p ∷ ps) [] env vs = refl
parameters_same (p ∷ ps) (b ∷ bs) env End = refl
parameters_same (p ∷ ps) (b ∷ bs) env (More v vs) = parameters_same ps bs (bind env b.number v) vs

module _ (w : World) where
  mutual
    argument_registers : (o : Option (Option ℕ)) (a : Argument) → registers_of_argument (fill_argument w o a) ≡ registers_of_argument a
    argument_registers o (Variable x n p) = refl
    argument_registers o (Literal i p) = refl
    argument_registers o (Constructor u d c n p as') = ap suc (arguments_registers true (field_types w (chosen w o d) c) as')

    arguments_registers : (b : Bool) (ts : List (Option ℕ)) (as' : Arguments) → registers_of_arguments (fill_arguments w b ts as') ≡ registers_of_arguments as'
    arguments_registers b ts NoArguments = refl
    arguments_registers b ts (MoreArguments a as') = sum_same _ _ _ _ (argument_registers (first_wanted b ts) a) (arguments_registers b (others ts) as')

  mutual
    pattern_registers : (t : Option ℕ) (q : Pattern) → registers_of_pattern (fill_pattern w t q) ≡ registers_of_pattern q
    pattern_registers t (BinderPattern b) = refl
    pattern_registers t (LiteralPattern i p) = refl
    pattern_registers t (ConstructorPattern u d c n p ps) = ap suc (patterns_registers (field_types w (chosen w (Some t) d) c) ps)

    patterns_registers : (ts : List (Option ℕ)) (ps : Patterns) → registers_of_patterns (fill_patterns w ts ps) ≡ registers_of_patterns ps
    patterns_registers ts NoPatterns = refl
    patterns_registers ts (MorePatterns q ps) = sum_same _ _ _ _ (pattern_registers (first_type ts) q) (patterns_registers (others ts) ps)

  mutual
    expression_registers : (s : Scope) (b : Bool) (ts : List (Option ℕ)) (e : Expression) → registers_of_expression (fill w s b ts e) ≡ registers_of_expression e
    expression_registers s b ts (Give a) = argument_registers (first_wanted b (usable b 1 ts)) a
    expression_registers s b ts (Tuple p as') = arguments_registers b (usable b (count as') ts) as'
    expression_registers s b ts (Operation o p l r) = sum_same _ _ _ _ (argument_registers (Some (Some 0)) l) (argument_registers (Some (Some 0)) r)
    expression_registers s b ts (Call g n p as') = arguments_registers true (map Some (head w g).parameters) as'
    expression_registers s b ts (Match k u p a q body cs) =
        sum_same _ _ _ _ (argument_registers None a) (sum_same _ _ _ _ (pattern_registers (found_argument w s None a) q)
        (sum_same _ _ _ _ (block_registers (s ++ bound_by w (found_argument w s None a) q) b ts body)
        (clauses_registers s (found_argument w s None a) (wanted_next b ts (found_block w (s ++ bound_by w (found_argument w s None a) q) b ts body)) cs)))
    expression_registers s b ts (Nested d) = block_registers s b ts d

    block_registers : (s : Scope) (b : Bool) (ts : List (Option ℕ)) (d : Block) → registers_of_block (fill_block w s b ts d) ≡ registers_of_block d
    block_registers s b ts (Last e) = expression_registers s b ts e
    block_registers s b ts (Let bs e rest) =
        sum_same _ _ _ _ (binders_length (found w s (all_annotated bs) (annotations bs) e) bs)
        (sum_same _ _ _ _ (expression_registers s (all_annotated bs) (annotations bs) e)
        (block_registers (s ++ entries bs (found w s (all_annotated bs) (annotations bs) e)) b ts rest))

    clauses_registers : (s : Scope) (t : Option ℕ) (ts : List (Option ℕ)) (cs : Clauses) → registers_of_clauses (fill_clauses w s t ts cs) ≡ registers_of_clauses cs
    clauses_registers s t ts NoClauses = refl
    clauses_registers s t ts (MoreClauses q body cs) =
        sum_same _ _ _ _ (pattern_registers t q) (sum_same _ _ _ _ (block_registers (s ++ bound_by w t q) true ts body) (clauses_registers s t ts cs))

  frame_filled : (d : Instance) → frame_words (fill_instance w d) ≡ frame_words d
  frame_filled d = ap (λ n. n + 2) (sum_same _ _ _ _ refl (sum_same _ _ _ _ refl (block_registers (parameter_scope d) true (map Some d.results) d.body)))

  mutual
    argument_same : (o : Option (Option ℕ)) (env : Environment) (a : Argument) → argument_value env (fill_argument w o a) ≡ argument_value env a
    argument_same o env (Variable x n p) = refl
    argument_same o env (Literal i p) = refl
    argument_same o env (Constructor u d c n p as') = ap (node_of c) (arguments_same true (field_types w (chosen w o d) c) env as')

    arguments_same : (b : Bool) (ts : List (Option ℕ)) (env : Environment) (as' : Arguments) → argument_values env (fill_arguments w b ts as') ≡ argument_values env as'
    arguments_same b ts env NoArguments = refl
    arguments_same b ts env (MoreArguments a as') = more_same _ _ _ _ (argument_same (first_wanted b ts) env a) (arguments_same b (others ts) env as')

  mutual
    matching_same : (t : Option ℕ) (q : Pattern) (v : Value) → matching (fill_pattern w t q) v ≡ matching q v
    matching_same t (BinderPattern b) v = refl
    matching_same t (LiteralPattern i p) v = refl
    matching_same t (ConstructorPattern u d k n p ps) (Int j) = refl
    matching_same t (ConstructorPattern u d k n p ps) (Node c vs) = ap (λ x. if k == c then x else None) (matching_all_same (field_types w (chosen w (Some t) d) k) ps vs)

    matching_all_same : (ts : List (Option ℕ)) (ps : Patterns) (vs : Values) → matching_all (fill_patterns w ts ps) vs ≡ matching_all ps vs
    matching_all_same ts NoPatterns vs = refl
    matching_all_same ts (MorePatterns q ps) End = refl
    matching_all_same ts (MorePatterns q ps) (More v vs) = both_same _ _ _ _ (matching_same (first_type ts) q v) (matching_all_same (others ts) ps vs)

  -- a clause with its types filled in, where the bodies and what is after them are the same
  clause_same : (t : Option ℕ) (q : Pattern) (v : Value) (go go' : List Binding → Run) (r r' : Run) → ((bs : List Binding) → go bs ≡ go' bs) → r ≡ r' → if_matches (matching (fill_pattern w t q) v) go r ≡ if_matches (matching q v) go' r'
  clause_same t q v go go' r r' same e =
      ap (λ o. if_matches o go r) (matching_same t q v) ∙ if_matches-same (matching q v) go go' r r' same e

  module _ (c : Calls) (words : ℕ) where
    mutual
      expression_same : (s : Scope) (b : Bool) (ts : List (Option ℕ)) (e : Expression) (tail : Bool) (d : ℕ) (env : Environment) (k : ℕ) → eval c words (fill w s b ts e) tail d env k ≡ eval c words e tail d env k
      expression_same s b ts (Give a) tail d env k = ap (λ o. with_value o (λ v. ends (Gives (More v End) k))) (argument_same (first_wanted b (usable b 1 ts)) env a)
      expression_same s b ts (Tuple p as') tail d env k = ap (λ o. with_values o (λ vs. ends (Gives vs k))) (arguments_same b (usable b (count as') ts) env as')
      expression_same s b ts (Operation o p l r) tail d env k =
          ap (λ x. with_value x (λ v. with_value (argument_value env (fill_argument w (Some (Some 0)) r)) (λ u. operation o p k v u))) (argument_same (Some (Some 0)) env l)
          ∙ with_value-same (argument_value env l) _ _ (λ v. ap (λ x. with_value x (λ u. operation o p k v u)) (argument_same (Some (Some 0)) env r))
      expression_same s b ts (Call g n p as') tail d env k = ap (λ x. with_values x (λ vs. counted k (λ left. in_frame tail words d (λ free. c free g vs left)))) (arguments_same true (map Some (head w g).parameters) env as')
      expression_same s b ts (Match ds u p a q body cs) tail d env k =
          ap (λ o. with_value o (λ v. if_matches (matching (fill_pattern w (found_argument w s None a) q) v) (λ bs. eval_block c words (fill_block w (s ++ bound_by w (found_argument w s None a) q) b ts body) tail d (bind_matched env bs) k) (eval_clauses c words (fill_clauses w s (found_argument w s None a) (wanted_next b ts (found_block w (s ++ bound_by w (found_argument w s None a) q) b ts body)) cs) v tail d env k))) (argument_same None env a)
          ∙ with_value-same (argument_value env a) _ _ (λ v. clause_same (found_argument w s None a) q v _ _ _ _
          (λ bs. block_same (s ++ bound_by w (found_argument w s None a) q) b ts body tail d (bind_matched env bs) k)
          (clauses_same s (found_argument w s None a) (wanted_next b ts (found_block w (s ++ bound_by w (found_argument w s None a) q) b ts body)) cs v tail d env k))
      expression_same s b ts (Nested e) tail d env k = block_same s b ts e tail d env k

      block_same : (s : Scope) (b : Bool) (ts : List (Option ℕ)) (e : Block) (tail : Bool) (d : ℕ) (env : Environment) (k : ℕ) → eval_block c words (fill_block w s b ts e) tail d env k ≡ eval_block c words e tail d env k
      block_same s b ts (Last e) tail d env k = expression_same s b ts e tail d env k
      block_same s b ts (Let bs e rest) tail d env k =
          go_on_same _ _ _ _ (expression_same s (all_annotated bs) (annotations bs) e false d env k)
          (λ vs left. block_same (s ++ entries bs (found w s (all_annotated bs) (annotations bs) e)) b ts rest tail d (bind_binders env (fill_binders (found w s (all_annotated bs) (annotations bs) e) bs) vs) left
          ∙ ap (λ r. eval_block c words rest tail d r left) (binders_same (found w s (all_annotated bs) (annotations bs) e) bs env vs))

      clauses_same : (s : Scope) (t : Option ℕ) (ts : List (Option ℕ)) (cs : Clauses) (v : Value) (tail : Bool) (d : ℕ) (env : Environment) (k : ℕ) → eval_clauses c words (fill_clauses w s t ts cs) v tail d env k ≡ eval_clauses c words cs v tail d env k
      clauses_same s t ts NoClauses v tail d env k = refl
      clauses_same s t ts (MoreClauses q body cs) v tail d env k =
          clause_same t q v _ _ _ _ (λ bs. block_same (s ++ bound_by w t q) true ts body tail d (bind_matched env bs) k) (clauses_same s t ts cs v tail d env k)

  body_same : (c : Calls) (f : Instance) (d : ℕ) (vs : Values) (k : ℕ) → body_run c d (Some (fill_instance w f)) vs k ≡ body_run c d (Some f) vs k
  body_same c f d vs k =
      ap (λ n. entered n (eval_block c n (fill_block w (parameter_scope f) true (map Some f.results) f.body) true d (bind_binders nothing_bound (fill_parameters f.params f.binders) vs) k)) (frame_filled f)
      ∙ ap (entered (frame_words f)) (block_same c (frame_words f) (parameter_scope f) true (map Some f.results) f.body true d (bind_binders nothing_bound (fill_parameters f.params f.binders) vs) k
      ∙ ap (λ r. eval_block c (frame_words f) f.body true d r k) (parameters_same f.params f.binders nothing_bound vs))

  bodies_same : (c : Calls) (fs : List Instance) (d i : ℕ) (vs : Values) (k : ℕ) → body_run c d (slice_get (map (fill_instance w) fs) i) vs k ≡ body_run c d (slice_get fs i) vs k
  bodies_same c [] d i vs k = refl
  bodies_same c (f ∷ fs) d zero vs k = body_same c f d vs k
  bodies_same c (f ∷ fs) d (suc i) vs k = bodies_same c fs d i vs k

-- by function extensionality, what calls give is the same function
filled_calls : (p : Program) (m : ℕ) → calls_of (filled p) m ≡ calls_of p m
filled_calls p zero = refl
filled_calls p (suc m) =
    ap (λ c. λ d i vs k. body_run c d (slice_get (filled p).instances i) vs k) (filled_calls p m)
    ∙ (λ j. λ d i vs k. bodies_same (world p) (calls_of p m) p.instances d i vs k j)

-- a typed program means what it meant before it was typed
pub filled_means : (p : Program) (i : ℕ) (vs : Values) (n d : ℕ) → flat_meaning (filled p) i vs n d ≡ flat_meaning p i vs n d
unfolding flat_meaning
filled_means p i vs n d = ap (λ c. counted n (λ left. c d i vs left)) (filled_calls p n)
