-- The flat program of an accepted source is well formed.
use Rattle.std.proofs.Common.{◌≡◌, ◌<◌, inl, inr, ℕ, suc, List, [], ◌∷◌, length, map, Option, Some, None, slice_get, refl, sym, ap, ◌∙◌, subst, arith}
use Rattle.cell_lower.specs.fip_language.Core as C
use Rattle.cell_lower.specs.fip_language.Core.{Name, Core, Data, Function, Written, WrittenName}
use Rattle.cell_lower.specs.fip_language.Declarations.{data_types}
use Rattle.cell_lower.specs.fip_language.Every.{Among}
use Rattle.cell_lower.specs.fip_language.SoundTable.{AreTypes}
use Rattle.cell_lower.specs.fip_language.Table.{shapes}
use Rattle.cell_lower.specs.fip_trees.Names.{meaning}
use Rattle.cell_lower.specs.fip_trees.Tree as T
use Rattle.cell_lower.specs.fip_trees.declared.decls.ConstructorId.{ConstructorId}
use Rattle.static_params.specs.data_types.Types as D
use Rattle.static_params.specs.data_types.Declarations.{declarations, data_scope, declared_names, written_names}
use Rattle.static_params.specs.reached_instances.closed_types.declared.closed.Head.TheVariants as H
use Rattle.static_params.specs.reached_instances.closed_types.Closed as Z
use Rattle.static_params.specs.reached_instances.closed_types.Closed.{Closed, Applied}
use Rattle.static_params.specs.reached_instances.closed_types.Source.{Instance}
use Rattle.static_params.specs.reached_instances.closed_types.Uses.{closed_function, declared_type, result_types}
use Rattle.static_params.specs.reached_instances.closed_types.Instances.{AreInstances, ArePassed}
use Rattle.static_params.specs.reached_instances.closed_types.TypeInstances.{AreTypes as AreNumberedTypes}
use Rattle.static_params.specs.FlatProgram.{Numbers, number_in, or_zero, callee_number, flat_type, declared_or_bool, constructor_of, flat_pattern, flat_patterns, flat_expression, flat_block, flat_clauses, flat_parameter, flat_instance, instance_if, instances_of, flat_constructor, declaring_of, flat_program}
use Rattle.static_params.specs.Answers.{AreFew}
use Rattle.static_params.specs.FlatSource.{flat_source, constructor, declared}
use Rattle.source_report.specs.WellFormed.{IsKnownPattern, AreKnownPatterns, IsKnown, IsKnownBlock, AreKnownClauses, type_of, IsKnownInstance, IsWellFormed}
use Rattle.static_params.proofs.Meanings.{IsConstructor, constructor_there}
use Rattle.static_params.proofs.GoodTypes.{all_of_have, below}
use Rattle.static_params.proofs.TableRows.{map_length, row_there, one_number, types_length, declaring_length, within_table, fields_within, inhabited, some_type, instances_length}
use Rattle.static_params.proofs.TypeRows.{some_below, place_below, one_at}

module _ (core : Core) (ns : Numbers) (passed : List Closed) (instances : AreInstances (flat_source core) ns.instances) (given : ArePassed ns.instances passed) (types : AreNumberedTypes (flat_source core) ns.instances passed ns.types) where
  abbrev pub p : T.Program
  p = flat_program (flat_source core) ns

  -- ---- constructors

  constructor_is : (o : Option ConstructorId) → ((k : ConstructorId) → o ≡ Some k → IsConstructor (data_types core) k) → IsConstructor (data_types core) (declared_or_bool o)
  constructor_is None h = (0, Rattle.cell_lower.specs.fip_language.Declarations.bool_type, refl, refl, omega arith)
  constructor_is (Some k) h = h k refl

  named_constructor : (x : Name) → IsConstructor (data_types core) (constructor_of (flat_source core) x)
  named_constructor x = constructor_is (meaning x (written_names core).constructors) (λ k e. constructor_there core x k e)

  same_suc : (m n : ℕ) → suc m ≡ suc n → m ≡ n
  same_suc m n e = omega (arith, e)

  row_has : (k : ConstructorId) (t : ℕ) → IsConstructor (data_types core) k → slice_get p.declaring t ≡ Some k.«data» → k.number < length (shapes p.types t)
  row_has k t h e =
      let small : t < length p.types = (let b = below p.declaring t k.«data» e in let f = declaring_length core ns passed instances given types in let g = types_length core ns passed instances given types in omega (arith, b, f, g)) in
      let r = row_there core ns passed instances given types t small in
      let number : slice_get p.declaring t ≡ Some (suc r.number) =
      one_at (declaring_of (flat_source core)) ns.types (one_number core ns passed instances given types) t (Applied (H.«Type» (suc r.number)) r.arguments) (suc r.number) r.at (ap (Rattle.static_params.specs.FlatProgram.number_if (suc r.number)) r.declared) in
      let same : h.0 ≡ r.number = same_suc h.0 r.number (let f : suc h.0 ≡ suc r.number = (let g : Some k.«data» ≡ Some (suc r.number) = sym e ∙ number in let q : k.«data» ≡ suc r.number = cc in sym h.2 ∙ q) in f) in
      let one : Some h.1 ≡ Some r.«data» = sym h.3 ∙ ap (slice_get (data_types core)) same ∙ r.there in
      let it : h.1 ≡ r.«data» = cc in
      let size : length (shapes p.types t) ≡ length h.1.constructors =
      ap length r.row ∙ map_length (flat_constructor ns r.arguments) (declared (declared_names core) r.«data»).constructors ∙
      map_length (constructor (data_scope (declared_names core) r.«data»)) r.«data».constructors ∙ ap (λ (d : Data). length d.constructors) (sym it) in
      let few = h.4 in
      omega (arith, few, size)

  mutual
    pattern_known : (here : Instance) (q : C.Pattern) → IsKnownPattern p (flat_pattern (flat_source core) ns here q)
    pattern_known here (C.BinderPattern b) = tt
    pattern_known here (C.LiteralPattern i q) = tt
    pattern_known here (C.ConstructorPattern x q ps) =
        ((λ t e. row_has (constructor_of (flat_source core) x) t (named_constructor x) e), patterns_known here ps)

    patterns_known : (here : Instance) (ps : C.Patterns) → AreKnownPatterns p (flat_patterns (flat_source core) ns here ps)
    patterns_known here C.NoPatterns = tt
    patterns_known here (C.MorePatterns q qs) = (pattern_known here q, patterns_known here qs)

  -- ---- instances

  number_or_zero : (o : Option ℕ) → 0 < length ns.instances → ((i : ℕ) → o ≡ Some i → i < length ns.instances) → or_zero o < length ns.instances
  number_or_zero None some h = some
  number_or_zero (Some i) some h = h i refl

  callee_within : (o : Option Closed) → 0 < length ns.instances → callee_number ns o < length ns.instances
  callee_within None some = some
  callee_within (Some c) some = number_or_zero (number_in ns.instances c) some (place_below ns.instances c)

  module _ (some : 0 < length ns.instances) where
    mutual
      expression_known : (here : Instance) (e : C.Expression) → IsKnown p (flat_expression (flat_source core) ns here e)
      expression_known here (C.Give a) = tt
      expression_known here (C.Tuple q as') = tt
      expression_known here (C.Operation o q a b) = tt
      expression_known here (C.Call x q ws as') =
          let h = callee_within (closed_function (flat_source core) here (WrittenName x q ws)) some in
          let e = instances_length core ns passed instances given types in
          omega (arith, h, e)
      expression_known here (C.Match d q a C.NoClauses) = tt
      expression_known here (C.Match d q a (C.MoreClauses r b cs)) = (pattern_known here r, block_known here b, clauses_known here cs)
      expression_known here (C.Nested b) = block_known here b

      block_known : (here : Instance) (b : C.Block) → IsKnownBlock p (flat_block (flat_source core) ns here b)
      block_known here (C.Last e) = expression_known here e
      block_known here (C.Let bs e rest) = (expression_known here e, block_known here rest)

      clauses_known : (here : Instance) (cs : C.Clauses) → AreKnownClauses p (flat_clauses (flat_source core) ns here cs)
      clauses_known here C.NoClauses = tt
      clauses_known here (C.MoreClauses r b cs) = (pattern_known here r, block_known here b, clauses_known here cs)

  parameters_within : (here : Instance) (ps : List C.Parameter) → AreTypes p.types (map type_of (map (flat_parameter (flat_source core) ns here) ps))
  parameters_within here [] = tt
  parameters_within here (q ∷ ps) = (within_table core ns passed instances given types (declared_type (flat_source core) here q.type), parameters_within here ps)

  results_within : (here : Instance) (ws : List Written) → AreTypes p.types (map (flat_type (flat_source core) ns here) ws)
  results_within here [] = tt
  results_within here (w ∷ ws) = (within_table core ns passed instances given types (declared_type (flat_source core) here w), results_within here ws)

  instance_known : (here : Instance) (f : Function) → 0 < length ns.instances → IsKnownInstance p (flat_instance (flat_source core) ns here f)
  instance_known here f some =
      record {
        parameters = parameters_within here f.parameters;
        results = results_within here (result_types f.result);
        body = block_known some here f.body;
      }

  from_option : (here : Instance) (o : Option Function) → 0 < length ns.instances → (d : T.Instance) → Among d (instance_if (flat_source core) ns here o) → IsKnownInstance p d
  from_option here None some d a = absurd a
  from_option here (Some f) some d (inl e) = subst (IsKnownInstance p) (sym e) (instance_known here f some)
  from_option here (Some f) some d (inr n) = absurd n

  from_closed : (c : Closed) → 0 < length ns.instances → (d : T.Instance) → Among d (instances_of (flat_source core) ns c) → IsKnownInstance p d
  from_closed Z.Int some d a = absurd a
  from_closed (Applied (H.«Type» n) cs) some d a = absurd a
  from_closed (Applied (H.Function f) cs) some d a = from_option (record { function = f; given = cs }) (slice_get core.functions f) some d a

  all_known : (d : T.Instance) → Among d p.instances → IsKnownInstance p d
  all_known d a = all_of_have (IsKnownInstance p) (instances_of (flat_source core) ns) ns.instances (λ c b e f. from_closed c (some_below c ns.instances b) e f) d a

pub flat_is_formed : (core : Core) (ns : Numbers) → AreFew (flat_source core) ns → ((n : ℕ) → n < length (data_types core) → D.IsValued (declarations core) n) → IsWellFormed (flat_program (flat_source core) ns)
flat_is_formed core ns few valued =
    record {
      declared = declaring_length core ns few.passed few.instances.instances few.given few.types ∙ sym (types_length core ns few.passed few.instances.instances few.given few.types);
      bool = some_type core ns few.passed few.instances.instances few.given few.types;
      fields = fields_within core ns few.passed few.instances.instances few.given few.types;
      inhabited = inhabited core ns few.passed few.instances.instances few.given few.types valued;
      instances = all_known core ns few.passed few.instances.instances few.given few.types;
    }
