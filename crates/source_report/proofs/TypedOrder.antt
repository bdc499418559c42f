-- The binders of a typed program are numbered in order: so they are in the core form, and neither specialising nor
-- typing changes a number.
use Rattle.std.proofs.Common.{◌≡◌, ◌<◌, ◌+◌, inl, inr, ℕ, suc, true, List, [], ◌∷◌, ◌++◌, Bool, length, map, Option, Some, None, slice_get, refl, sym, ap, ◌∙◌, subst, arith}
use Rattle.cell_lower.specs.fip_language.Core as C
use Rattle.cell_lower.specs.fip_language.Core.{Core, Function}
use Rattle.cell_lower.specs.fip_language.Every.{Every, Among}
use Rattle.cell_lower.proofs.fip_language.Search.{every_from}
use Rattle.cell_lower.proofs.fip_language.Words.{every_among}
use Rattle.cell_lower.specs.fip_base.declared.plain.Param.{Param}
use Rattle.cell_lower.specs.fip_trees.declared.program.Binder.{Binder}
use Rattle.cell_lower.specs.fip_trees.Tree as T
use Rattle.cell_lower.specs.fip_trees.Tree.{Program}
use Rattle.static_params.specs.reached_instances.closed_types.declared.closed.Head.TheVariants as H
use Rattle.static_params.specs.reached_instances.closed_types.Closed as Z
use Rattle.static_params.specs.reached_instances.closed_types.Closed.{Closed, Applied}
use Rattle.static_params.specs.reached_instances.closed_types.Source.{Source, Instance}
use Rattle.static_params.specs.FlatProgram.{Numbers, flat_binder, flat_pattern, flat_patterns, flat_expression, flat_block, flat_clauses, flat_parameter, flat_instance, instance_if, instances_of, flat_program}
use Rattle.static_params.specs.FlatSource.{flat_source}
use Rattle.static_params.proofs.GoodTypes.{all_of_have}
use Rattle.static_params.proofs.TableRows.{map_length}
use Rattle.static_params.proofs.TypeRows.{there_among}
use Rattle.lowering_simulation.specs.type_check.Found.{first_type, others, wanted_next}
use Rattle.lowering_simulation.specs.type_check.Scope.{Scope}
use Rattle.lowering_simulation.specs.type_check.Binders.{all_annotated, annotations, entries}
use Rattle.lowering_simulation.specs.type_check.Typing.{bound_by, parameter_scope}
use Rattle.lowering_simulation.specs.type_check.World.{World, world, chosen, field_types}
use Rattle.lowering_simulation.specs.type_check.Faults.{fill_binders, fill_pattern, fill_patterns, fill, fill_block, fill_clauses, fill_parameters, fill_instance, filled, found, found_block, found_argument}
use Rattle.source_report.specs.Report.{IsParsed, IsFlat, IsTyped}
use Rattle.source_report.specs.Order.{From, SpansPattern, SpansPatterns, Spans, SpansBlock, SpansClauses, IsOrdered}
use Rattle.source_report.proofs.CoreOrder as O
use Rattle.source_report.proofs.CoreOrder.{IsOrderedFunction, core_ordered}
use Rattle.source_report.proofs.SpeltBinders.{spelt_has}
use Rattle.source_report.proofs.Filling.{from_map}

-- ---- specialising

module _ (s : Source) (ns : Numbers) (here : Instance) where
  flat_from : (n m : ℕ) (bs : List C.Binder) → O.From n m bs → From n m (map (flat_binder s ns here) bs)
  flat_from n m [] h = h
  flat_from n m (b ∷ bs) h = (h.0, flat_from (n + 1) m bs h.1)

  flat_some : (bs : List C.Binder) → 0 < length bs → 0 < length (map (flat_binder s ns here) bs)
  flat_some bs h = subst (λ i. 0 < i) (sym (map_length (flat_binder s ns here) bs)) h

  mutual
    flat_pattern_spans : (n m : ℕ) (p : C.Pattern) → O.SpansPattern n m p → SpansPattern n m (flat_pattern s ns here p)
    flat_pattern_spans n m (C.BinderPattern b) h = h
    flat_pattern_spans n m (C.LiteralPattern i p) h = h
    flat_pattern_spans n m (C.ConstructorPattern x p ps) h = flat_patterns_span n m ps h

    flat_patterns_span : (n m : ℕ) (ps : C.Patterns) → O.SpansPatterns n m ps → SpansPatterns n m (flat_patterns s ns here ps)
    flat_patterns_span n m C.NoPatterns h = h
    flat_patterns_span n m (C.MorePatterns p ps) h = (h.0, flat_pattern_spans n h.0 p h.1, flat_patterns_span h.0 m ps h.2)

  mutual
    flat_spans : (n m : ℕ) (e : C.Expression) → O.Spans n m e → Spans n m (flat_expression s ns here e)
    flat_spans n m (C.Give a) h = h
    flat_spans n m (C.Tuple p as') h = h
    flat_spans n m (C.Operation o p a b) h = h
    flat_spans n m (C.Call x p ws as') h = h
    flat_spans n m (C.Match d p a C.NoClauses) h = h
    flat_spans n m (C.Match d p a (C.MoreClauses q b cs)) h =
        (h.0, h.1, flat_pattern_spans n h.0 q h.2, flat_block_spans h.0 h.1 b h.3, flat_clauses_span h.1 m cs h.4)
    flat_spans n m (C.Nested b) h = flat_block_spans n m b h

    flat_block_spans : (n m : ℕ) (b : C.Block) → O.SpansBlock n m b → SpansBlock n m (flat_block s ns here b)
    flat_block_spans n m (C.Last e) h = flat_spans n m e h
    flat_block_spans n m (C.Let bs e rest) h =
        (h.0, h.1, flat_some bs h.2, flat_spans n h.0 e h.3, flat_from h.0 h.1 bs h.4, flat_block_spans h.1 m rest h.5)

    flat_clauses_span : (n m : ℕ) (cs : C.Clauses) → O.SpansClauses n m cs → SpansClauses n m (flat_clauses s ns here cs)
    flat_clauses_span n m C.NoClauses h = h
    flat_clauses_span n m (C.MoreClauses q b cs) h =
        (h.0, h.1, flat_pattern_spans n h.0 q h.2, flat_block_spans h.0 h.1 b h.3, flat_clauses_span h.1 m cs h.4)

  abbrev binder_of : C.Parameter → Binder
  binder_of p = flat_binder s ns here p.binder

  flat_parameters_from : (n : ℕ) (ps : List C.Parameter) → O.ParametersFrom n ps → From n (n + length ps) (map binder_of ps)
  flat_parameters_from n [] h = omega arith
  flat_parameters_from n (p ∷ ps) h =
      let e : n + 1 + length ps ≡ n + suc (length ps) = omega arith in
      (h.0, subst (λ i. From (n + 1) i (map binder_of ps)) e (flat_parameters_from (n + 1) ps h.1))

  flat_ordered : (f : Function) → IsOrderedFunction f → IsOrdered (flat_instance s ns here f)
  flat_ordered f h =
      let many = map_length (flat_parameter s ns here) f.parameters in
      let all : 0 + length f.parameters ≡ length (map (flat_parameter s ns here) f.parameters) = omega (arith, many) in
      record {
        as_many = map_length binder_of f.parameters ∙ sym many;
        parameters = subst (λ i. From 0 i (map binder_of f.parameters)) all (flat_parameters_from 0 f.parameters h.0);
        next = h.1.0;
        body = subst (λ i. SpansBlock i h.1.0 (flat_block s ns here f.body)) (sym many) (flat_block_spans (length f.parameters) h.1.0 f.body h.1.1);
      }

module _ (core : Core) (ns : Numbers) (ordered : Every IsOrderedFunction core.functions) where
  from_option : (here : Instance) (o : Option Function) → ((f : Function) → o ≡ Some f → Among f core.functions) → (d : T.Instance) → Among d (instance_if (flat_source core) ns here o) → IsOrdered d
  from_option here None h d a = absurd a
  from_option here (Some f) h d (inl e) =
      subst IsOrdered (sym e) (flat_ordered (flat_source core) ns here f (every_among IsOrderedFunction f core.functions ordered (h f refl)))
  from_option here (Some f) h d (inr n) = absurd n

  from_closed : (c : Closed) (d : T.Instance) → Among d (instances_of (flat_source core) ns c) → IsOrdered d
  from_closed Z.Int d a = absurd a
  from_closed (Applied (H.«Type» n) cs) d a = absurd a
  from_closed (Applied (H.Function f) cs) d a =
      from_option (record { function = f; given = cs }) (slice_get core.functions f) (λ g e. there_among core.functions f g e) d a

  flat_all_ordered : (d : T.Instance) → Among d (flat_program (flat_source core) ns).instances → IsOrdered d
  flat_all_ordered d a = all_of_have IsOrdered (instances_of (flat_source core) ns) ns.instances (λ c b e f. from_closed c e f) d a

-- ---- typing

fill_from : (n m : ℕ) (ts : List (Option ℕ)) (bs : List Binder) → From n m bs → From n m (fill_binders ts bs)
fill_from n m ts [] h = h
fill_from n m ts (b ∷ bs) h = (h.0, fill_from (n + 1) m (others ts) bs h.1)

fill_some : (ts : List (Option ℕ)) (bs : List Binder) → 0 < length bs → 0 < length (fill_binders ts bs)
fill_some ts [] h = h
fill_some ts (b ∷ bs) h = omega arith

parameters_from : (n m : ℕ) (ps : List Param) (bs : List Binder) → From n m bs → From n m (fill_parameters ps bs)
parameters_from n m [] bs h = h
parameters_from n m (p ∷ ps) [] h = h
parameters_from n m (p ∷ ps) (b ∷ bs) h = (h.0, parameters_from (n + 1) m ps bs h.1)

parameters_many : (ps : List Param) (bs : List Binder) → length (fill_parameters ps bs) ≡ length bs
parameters_many [] bs = refl
parameters_many (p ∷ ps) [] = refl
parameters_many (p ∷ ps) (b ∷ bs) = ap suc (parameters_many ps bs)

module _ (w : World) where
  mutual
    fill_pattern_spans : (n m : ℕ) (t : Option ℕ) (p : T.Pattern) → SpansPattern n m p → SpansPattern n m (fill_pattern w t p)
    fill_pattern_spans n m t (T.BinderPattern b) h = h
    fill_pattern_spans n m t (T.LiteralPattern i p) h = h
    fill_pattern_spans n m t (T.ConstructorPattern u d c x p ps) h = fill_patterns_span n m (field_types w (chosen w (Some t) d) c) ps h

    fill_patterns_span : (n m : ℕ) (ts : List (Option ℕ)) (ps : T.Patterns) → SpansPatterns n m ps → SpansPatterns n m (fill_patterns w ts ps)
    fill_patterns_span n m ts T.NoPatterns h = h
    fill_patterns_span n m ts (T.MorePatterns p ps) h = (h.0, fill_pattern_spans n h.0 (first_type ts) p h.1, fill_patterns_span h.0 m (others ts) ps h.2)

  mutual
    fill_spans : (n m : ℕ) (s : Scope) (b : Bool) (ts : List (Option ℕ)) (e : T.Expression) → Spans n m e → Spans n m (fill w s b ts e)
    fill_spans n m s b ts (T.Give a) h = h
    fill_spans n m s b ts (T.Tuple l as') h = h
    fill_spans n m s b ts (T.Operation o l x y) h = h
    fill_spans n m s b ts (T.Call g x l as') h = h
    fill_spans n m s b ts (T.Match k u l a r body cs) h = (
      h.0,
      h.1,
      fill_pattern_spans n h.0 (found_argument w s None a) r h.2,
      fill_block_spans h.0 h.1 (s ++ bound_by w (found_argument w s None a) r) b ts body h.3,
      fill_clauses_span h.1 m s (found_argument w s None a) (wanted_next b ts (found_block w (s ++ bound_by w (found_argument w s None a) r) b ts body)) cs h.4,
    )
    fill_spans n m s b ts (T.Nested d) h = fill_block_spans n m s b ts d h

    fill_block_spans : (n m : ℕ) (s : Scope) (b : Bool) (ts : List (Option ℕ)) (d : T.Block) → SpansBlock n m d → SpansBlock n m (fill_block w s b ts d)
    fill_block_spans n m s b ts (T.Last e) h = fill_spans n m s b ts e h
    fill_block_spans n m s b ts (T.Let bs e rest) h =
        let us = found w s (all_annotated bs) (annotations bs) e in (
          h.0,
          h.1,
          fill_some us bs h.2,
          fill_spans n h.0 s (all_annotated bs) (annotations bs) e h.3,
          fill_from h.0 h.1 us bs h.4,
          fill_block_spans h.1 m (s ++ entries bs us) b ts rest h.5,
        )

    fill_clauses_span : (n m : ℕ) (s : Scope) (t : Option ℕ) (ts : List (Option ℕ)) (cs : T.Clauses) → SpansClauses n m cs → SpansClauses n m (fill_clauses w s t ts cs)
    fill_clauses_span n m s t ts T.NoClauses h = h
    fill_clauses_span n m s t ts (T.MoreClauses r body cs) h =
        (h.0, h.1, fill_pattern_spans n h.0 t r h.2, fill_block_spans h.0 h.1 (s ++ bound_by w t r) true ts body h.3, fill_clauses_span h.1 m s t ts cs h.4)

  fill_ordered : (d : T.Instance) → IsOrdered d → IsOrdered (fill_instance w d)
  fill_ordered d h =
      record {
        as_many = parameters_many d.params d.binders ∙ h.as_many;
        parameters = parameters_from 0 (length d.params) d.params d.binders h.parameters;
        next = h.next;
        body = fill_block_spans (length d.params) h.next (parameter_scope d) true (map Some d.results) d.body h.body;
      }

filled_ordered : (p : Program) → ((d : T.Instance) → Among d p.instances → IsOrdered d) → (d : T.Instance) → Among d (filled p).instances → IsOrdered d
filled_ordered p h = from_map IsOrdered (fill_instance (world p)) p.instances (λ d a. fill_ordered (world p) d (h d a))

-- ---- sources

parsed_ordered : (source : List ℕ) (core : Core) → IsParsed source core → Every IsOrderedFunction core.functions
parsed_ordered source core h =
    subst (λ (c : Core). Every IsOrderedFunction c.functions) (sym h.is) (core_ordered h.tree (spelt_has source h.tree h.spelt))

flat_in_order : (source : List ℕ) (p : Program) → IsFlat source p → (d : T.Instance) → Among d p.instances → IsOrdered d
flat_in_order source p h =
    subst (λ (q : Program). (d : T.Instance) → Among d q.instances → IsOrdered d) (sym h.is)
    (flat_all_ordered h.core h.numbers (parsed_ordered source h.core h.declared.parsed))

pub typed_in_order : (source : List ℕ) (p : Program) → IsTyped source p → (d : T.Instance) → Among d p.instances → IsOrdered d
typed_in_order source p h =
    subst (λ (q : Program). (d : T.Instance) → Among d q.instances → IsOrdered d) (sym h.is)
    (filled_ordered h.untyped (flat_in_order source h.untyped h.flat))

pub typed_ordered : (source : List ℕ) (p : Program) → IsTyped source p → Every IsOrdered p.instances
typed_ordered source p h = every_from IsOrdered p.instances (typed_in_order source p h)
