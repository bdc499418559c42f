-- What breaks the rules on types, as one list in the order of a walk; the types that are found on the way; and the tree
-- with its slots filled. What has no type because of a violation has a hidden type (none), with which nothing differs.
--
-- An expression is expected to have as many results as `ts` has, and where `b` these types.
use Rattle.std.specs.Prelude.{ℕ, suc, Bool, true, false, not, ◌&&◌, List, [], ◌∷◌, ◌++◌, map, length}
use Rattle.std.specs.Prelude.{Option, Some, None}
use Rattle.std.specs.Prelude.{is_none, ◌==◌, nat_lt}
use Rattle.fip_language.specs.declared.Place.{Place}
use Rattle.fip_language.specs.declared.rule.Rule.{Rule}
use Rattle.fip_language.specs.declared.rule.Rule.TheVariants.{E30, E31, E32, E33, E34}
use Rattle.fip_base.specs.declared.plain.Param.{Param}
use Rattle.fip_language.specs.declared.limits.TheConstants.{MOST_RESULTS}
use Rattle.fip_trees.specs.declared.least.Violation.{Violation}
use Rattle.fip_trees.specs.declared.program.Binder.{Binder}
use Rattle.fip_trees.specs.declared.program.TupleResult.{TupleResult}
use Rattle.fip_trees.specs.Tree.{Name, Argument, Variable, Literal, Constructor, Arguments, NoArguments, MoreArguments}
use Rattle.fip_trees.specs.Tree.{Pattern, BinderPattern, LiteralPattern, ConstructorPattern, Patterns, NoPatterns}
use Rattle.fip_trees.specs.Tree.{MorePatterns, Expression, Give, Tuple, Operation, Call, Match, Nested}
use Rattle.fip_trees.specs.Tree.{Block, Last, Let}
use Rattle.fip_trees.specs.Tree.{Clauses, NoClauses, MoreClauses, Instance, Program, count, count_patterns, place_of}
use Rattle.type_check.specs.Found.{first_type, others, first_wanted, known, usable, as_many, slot, differ, misfits}
use Rattle.type_check.specs.Found.{some_differ, or_found, wanted_next}
use Rattle.type_check.specs.Binders.{all_annotated, annotations, entries, typed}
use Rattle.type_check.specs.Scope.{Scope, of_binder}
use Rattle.type_check.specs.World.{World, world, is_of, plain_type, chosen, field_types, field_count, head, result_of}
use Rattle.type_check.specs.BoundVariables.{bound_by, parameter_scope}

abbrev pub broken : Rule → Place → ℕ → Name → Violation
broken r p i n = record { rule = r; place = p; instance = i; size = 0; detail = n }

abbrev pub when : Bool → Violation → List Violation
when true v = v ∷ []
when false v = []

-- ---- types found

abbrev pub found_argument : World → Scope → Option (Option ℕ) → Argument → Option ℕ
found_argument w s o (Variable x n p) = known (of_binder s x)
found_argument w s o (Literal i p) = Some 0
found_argument w s o (Constructor u d c n p as') = chosen w o d

abbrev pub found_arguments : World → Scope → Bool → List (Option ℕ) → Arguments → List (Option ℕ)
found_arguments w s b ts NoArguments = []
found_arguments w s b ts (MoreArguments a as') =
    found_argument w s (first_wanted b ts) a ∷ found_arguments w s b (others ts) as'

abbrev mutual
  pub found : World → Scope → Bool → List (Option ℕ) → Expression → List (Option ℕ)
  found w s b ts (Give a) = as_many (found_argument w s (first_wanted b (usable b 1 ts)) a ∷ []) ts
  found w s b ts (Tuple p as') = as_many (found_arguments w s b (usable b (count as') ts) as') ts
  found w s b ts (Operation o p l r) = as_many (Some (result_of o) ∷ []) ts
  found w s b ts (Call g n p as') = as_many (map Some (head w g).results) ts
  found w s b ts (Match k u p a q body cs) = found_block w (s ++ bound_by w (found_argument w s None a) q) b ts body
  found w s b ts (Nested d) = found_block w s b ts d

  pub found_block : World → Scope → Bool → List (Option ℕ) → Block → List (Option ℕ)
  found_block w s b ts (Last e) = found w s b ts e
  found_block w s b ts (Let bs e rest) =
      found_block w (s ++ entries bs (found w s (all_annotated bs) (annotations bs) e)) b ts rest

-- ---- violations

-- A variable that isn't in scope breaks E31, one of another type than the one expected E30.
abbrev pub variable_faults : ℕ → Option (Option ℕ) → Option (Option ℕ) → Name → Place → List Violation
variable_faults i o None n p = broken E31 p i n ∷ []
variable_faults i o (Some t) n p = when (misfits o t) (broken E30 p i [])

-- A constructor of a data type with parameters breaks E32 where no type is expected, and one of another data type than
-- that of the type expected breaks E30.
abbrev pub constructor_faults : World → ℕ → Option (Option ℕ) → ℕ → Name → Place → List Violation
constructor_faults w i None d n p = when (is_none (plain_type w d)) (broken E32 p i n)
constructor_faults w i (Some None) d n p = []
constructor_faults w i (Some (Some t)) d n p = when (not (is_of w t d)) (broken E30 p i [])

-- a wrong number of parts
abbrev pub count_faults : ℕ → ℕ → ℕ → Name → Place → List Violation
count_faults i m k n p = when (not (m == k)) (broken E33 p i n)

abbrev mutual
  pub argument_faults : World → ℕ → Scope → Option (Option ℕ) → Argument → List Violation
  argument_faults w i s o (Variable x n p) = variable_faults i o (of_binder s x) n p
  argument_faults w i s o (Literal v p) = when (misfits o (Some 0)) (broken E30 p i [])
  argument_faults w i s o (Constructor u d c n p as') =
      constructor_faults w i o d n p ++
      (count_faults i (count as') (field_count w (chosen w o d) d c) n p ++
      arguments_faults w i s true (field_types w (chosen w o d) c) as')

  pub arguments_faults : World → ℕ → Scope → Bool → List (Option ℕ) → Arguments → List Violation
  arguments_faults w i s b ts NoArguments = []
  arguments_faults w i s b ts (MoreArguments a as') =
      argument_faults w i s (first_wanted b ts) a ++ arguments_faults w i s b (others ts) as'

abbrev mutual
  pub pattern_faults : World → ℕ → Option ℕ → Pattern → List Violation
  pattern_faults w i t (BinderPattern b) = []
  pattern_faults w i t (LiteralPattern v p) = when (differ t (Some 0)) (broken E30 p i [])
  pattern_faults w i t (ConstructorPattern u d c n p ps) =
      constructor_faults w i (Some t) d n p ++
      (count_faults i (count_patterns ps) (field_count w (chosen w (Some t) d) d c) n p ++
      patterns_faults w i (field_types w (chosen w (Some t) d) c) ps)

  pub patterns_faults : World → ℕ → List (Option ℕ) → Patterns → List Violation
  patterns_faults w i ts NoPatterns = []
  patterns_faults w i ts (MorePatterns p ps) =
      pattern_faults w i (first_type ts) p ++ patterns_faults w i (others ts) ps

-- results of known types, where `us` are expected
abbrev pub results_faults : ℕ → Place → Bool → List (Option ℕ) → List ℕ → List Violation
results_faults i p b us ts =
    when (not (length ts == length us)) (broken E34 p i []) ++
    when (b && ((length ts == length us) && some_differ us ts)) (broken E30 p i [])

-- an annotation that isn't the type found, unless all binders have one
abbrev pub binders_faults : ℕ → Bool → List Binder → List (Option ℕ) → List Violation
binders_faults i all [] ts = []
binders_faults i all (b ∷ bs) ts =
    when (not all && differ b.annotation (first_type ts)) (broken E30 b.place i []) ++
    binders_faults i all bs (others ts)

abbrev mutual
  pub faults : World → ℕ → Scope → Bool → List (Option ℕ) → Expression → List Violation
  faults w i s b ts (Give a) =
      when (not (1 == length ts)) (broken E34 (place_of a) i []) ++
      argument_faults w i s (first_wanted b (usable b 1 ts)) a
  faults w i s b ts (Tuple p as') =
      when (nat_lt MOST_RESULTS (count as')) (broken E34 p i []) ++
      (when (not (count as' == length ts)) (broken E34 p i []) ++
      arguments_faults w i s b (usable b (count as') ts) as')
  faults w i s b ts (Operation o p l r) =
      argument_faults w i s (Some (Some 0)) l ++
      (argument_faults w i s (Some (Some 0)) r ++ results_faults i p b ts (result_of o ∷ []))
  faults w i s b ts (Call g n p as') =
      count_faults i (count as') (length (head w g).parameters) n p ++
      (arguments_faults w i s true (map Some (head w g).parameters) as' ++ results_faults i p b ts (head w g).results)
  faults w i s b ts (Match k u p a q body cs) =
      argument_faults w i s None a ++
      (pattern_faults w i (found_argument w s None a) q ++
      (block_faults w i (s ++ bound_by w (found_argument w s None a) q) b ts body ++
      clauses_faults w i s (found_argument w s None a)
      (wanted_next b ts (found_block w (s ++ bound_by w (found_argument w s None a) q) b ts body)) cs))
  faults w i s b ts (Nested d) = block_faults w i s b ts d

  pub block_faults : World → ℕ → Scope → Bool → List (Option ℕ) → Block → List Violation
  block_faults w i s b ts (Last e) = faults w i s b ts e
  block_faults w i s b ts (Let bs e rest) =
      faults w i s (all_annotated bs) (annotations bs) e ++
      (binders_faults i (all_annotated bs) bs (found w s (all_annotated bs) (annotations bs) e) ++
      block_faults w i (s ++ entries bs (found w s (all_annotated bs) (annotations bs) e)) b ts rest)

  -- the clauses after the first, of which `ts` are expected
  pub clauses_faults : World → ℕ → Scope → Option ℕ → List (Option ℕ) → Clauses → List Violation
  clauses_faults w i s t ts NoClauses = []
  clauses_faults w i s t ts (MoreClauses q body cs) =
      pattern_faults w i t q ++
      (block_faults w i (s ++ bound_by w t q) true ts body ++ clauses_faults w i s t ts cs)

-- the tuples of too many results that a header's function parameters give
abbrev pub tuples_faults : ℕ → List TupleResult → List Violation
tuples_faults i [] = []
tuples_faults i (t ∷ ts) = when (nat_lt MOST_RESULTS t.count) (broken E34 t.place i []) ++ tuples_faults i ts

abbrev pub or_place : Option Place → Place → Place
or_place None p = p
or_place (Some q) p = q

-- the place of a header's results: its tuple's bracket, else the function's name
abbrev pub results_place : Instance → Place
results_place d = or_place d.results_place d.place

abbrev pub header_faults : ℕ → Instance → List Violation
header_faults i d =
    when (nat_lt MOST_RESULTS (length d.results)) (broken E34 (results_place d) i []) ++
    tuples_faults i d.signature_tuples

abbrev pub instance_faults : World → ℕ → Instance → List Violation
instance_faults w i d =
    header_faults i d ++ block_faults w i (parameter_scope d) true (map Some d.results) d.body

-- those of the instances, numbered from i on
abbrev pub instances_faults : World → ℕ → List Instance → List Violation
instances_faults w i [] = []
instances_faults w i (d ∷ ds) = instance_faults w i d ++ instances_faults w (suc i) ds

-- all violations of a program
abbrev pub type_faults : Program → List Violation
type_faults p = instances_faults (world p) 0 p.instances

-- ---- the tree with its slots filled

abbrev mutual
  pub fill_argument : World → Option (Option ℕ) → Argument → Argument
  fill_argument w o (Variable x n p) = Variable x n p
  fill_argument w o (Literal i p) = Literal i p
  fill_argument w o (Constructor u d c n p as') =
      Constructor (slot (chosen w o d)) d c n p (fill_arguments w true (field_types w (chosen w o d) c) as')

  pub fill_arguments : World → Bool → List (Option ℕ) → Arguments → Arguments
  fill_arguments w b ts NoArguments = NoArguments
  fill_arguments w b ts (MoreArguments a as') =
      MoreArguments (fill_argument w (first_wanted b ts) a) (fill_arguments w b (others ts) as')

abbrev pub fill_binders : List (Option ℕ) → List Binder → List Binder
fill_binders ts [] = []
fill_binders ts (b ∷ bs) = typed (or_found b.annotation (first_type ts)) b ∷ fill_binders (others ts) bs

abbrev mutual
  pub fill_pattern : World → Option ℕ → Pattern → Pattern
  fill_pattern w t (BinderPattern b) = BinderPattern (typed t b)
  fill_pattern w t (LiteralPattern i p) = LiteralPattern i p
  fill_pattern w t (ConstructorPattern u d c n p ps) =
      ConstructorPattern (slot (chosen w (Some t) d)) d c n p
      (fill_patterns w (field_types w (chosen w (Some t) d) c) ps)

  pub fill_patterns : World → List (Option ℕ) → Patterns → Patterns
  fill_patterns w ts NoPatterns = NoPatterns
  fill_patterns w ts (MorePatterns p ps) =
      MorePatterns (fill_pattern w (first_type ts) p) (fill_patterns w (others ts) ps)

abbrev mutual
  pub fill : World → Scope → Bool → List (Option ℕ) → Expression → Expression
  fill w s b ts (Give a) = Give (fill_argument w (first_wanted b (usable b 1 ts)) a)
  fill w s b ts (Tuple p as') = Tuple p (fill_arguments w b (usable b (count as') ts) as')
  fill w s b ts (Operation o p l r) =
      Operation o p (fill_argument w (Some (Some 0)) l) (fill_argument w (Some (Some 0)) r)
  fill w s b ts (Call g n p as') = Call g n p (fill_arguments w true (map Some (head w g).parameters) as')
  fill w s b ts (Match k u p a q body cs) =
      Match k (slot (found_argument w s None a)) p (fill_argument w None a)
      (fill_pattern w (found_argument w s None a) q)
      (fill_block w (s ++ bound_by w (found_argument w s None a) q) b ts body)
      (fill_clauses w s (found_argument w s None a)
      (wanted_next b ts (found_block w (s ++ bound_by w (found_argument w s None a) q) b ts body)) cs)
  fill w s b ts (Nested d) = Nested (fill_block w s b ts d)

  pub fill_block : World → Scope → Bool → List (Option ℕ) → Block → Block
  fill_block w s b ts (Last e) = Last (fill w s b ts e)
  fill_block w s b ts (Let bs e rest) =
      Let (fill_binders (found w s (all_annotated bs) (annotations bs) e) bs)
      (fill w s (all_annotated bs) (annotations bs) e)
      (fill_block w (s ++ entries bs (found w s (all_annotated bs) (annotations bs) e)) b ts rest)

  pub fill_clauses : World → Scope → Option ℕ → List (Option ℕ) → Clauses → Clauses
  fill_clauses w s t ts NoClauses = NoClauses
  fill_clauses w s t ts (MoreClauses q body cs) =
      MoreClauses (fill_pattern w t q) (fill_block w (s ++ bound_by w t q) true ts body) (fill_clauses w s t ts cs)

abbrev pub fill_parameters : List Param → List Binder → List Binder
fill_parameters [] bs = bs
fill_parameters (p ∷ ps) [] = []
fill_parameters (p ∷ ps) (b ∷ bs) = typed (Some p.ty) b ∷ fill_parameters ps bs

abbrev pub fill_instance : World → Instance → Instance
fill_instance w d =
    record {
      name = d.name;
      place = d.place;
      root = d.root;
      kind = d.kind;
      params = d.params;
      binders = fill_parameters d.params d.binders;
      credits = d.credits;
      results = d.results;
      results_place = d.results_place;
      signature_tuples = d.signature_tuples;
      variables = d.variables;
      body = fill_block w (parameter_scope d) true (map Some d.results) d.body;
    }

-- the program with each node's type in its slot
abbrev pub filled : Program → Program
filled p =
    record {
      types = p.types;
      declaring = p.declaring;
      arities = p.arities;
      field_counts = p.field_counts;
      instances = map (fill_instance (world p)) p.instances;
    }
