-- What the header of a function of a source reports: it has a result, as the grammar requires, and at most 16 credits
-- (E63); and how many binders an instance of it has.
use Rattle.std.proofs.Common.{◌≡◌, ◌<◌, ◌≤◌, ◌+◌, inl, inr, ℕ, zero, suc, Bool, true, List, [], ◌∷◌, ◌++◌, length, map, Option, Some, None, slice_get, refl, sym, ap, subst, arith}
use Rattle.std.proofs.lemmas.Option.{none-some}
use Rattle.lowering_soundness.specs.fip_language.declared.limits.TheConstants.{MOST_CREDITS}
use Rattle.lowering_soundness.specs.fip_language.Core as C
use Rattle.lowering_soundness.specs.fip_language.Core.{Core, Function, Result, OneResult, TupleResult, Static}
use Rattle.lowering_soundness.specs.fip_language.CoreForm.{core_form}
use Rattle.lowering_soundness.specs.fip_language.Every.{Every, Among}
use Rattle.lowering_soundness.specs.fip_language.Surface as S
use Rattle.lowering_soundness.proofs.fip_language.Words.{every_among}
use Rattle.source_safety.specs.fip_grammar.Token.{Token}
use Rattle.source_safety.specs.fip_grammar.Grammar.{Result', FunctionParts, Declaration', Spells}
use Rattle.lowering_soundness.specs.fip_trees.declared.program.Binder.{Binder}
use Rattle.lowering_soundness.specs.fip_trees.Tree as T
use Rattle.lowering_soundness.specs.fip_trees.Tree.{Program}
use Rattle.source_safety.specs.reached_instances.closed_types.Binders.{binders_in_pattern, binders_in_patterns, binders_in_expression, binders_in_block, binders_in_clauses}
use Rattle.source_safety.specs.reached_instances.closed_types.declared.closed.Head.TheVariants as H
use Rattle.source_safety.specs.reached_instances.closed_types.Closed as Z
use Rattle.source_safety.specs.reached_instances.closed_types.Closed.{Closed, Applied}
use Rattle.source_safety.specs.reached_instances.closed_types.Source.{Source, Instance}
use Rattle.source_safety.specs.reached_instances.closed_types.Uses.{result_types}
use Rattle.derivation_correctness.specs.static_params.FlatProgram.{Numbers, flat_binder, flat_pattern, flat_patterns, flat_expression, flat_block, flat_clauses, flat_parameter, flat_type, credit_size, flat_instance, instance_if, instances_of, flat_program}
use Rattle.derivation_correctness.specs.static_params.FlatSource.{flat_source}
use Rattle.derivation_correctness.proofs.static_params.GoodTypes.{all_of_have}
use Rattle.derivation_correctness.proofs.static_params.HeaderCredits.{few_marks}
use Rattle.derivation_correctness.proofs.static_params.TableRows.{map_length}
use Rattle.derivation_correctness.proofs.static_params.TypeRows.{there_among}
use Rattle.lowering_soundness.specs.type_check.Found.{first_type, others, wanted_next}
use Rattle.lowering_soundness.specs.type_check.Scope.{Scope}
use Rattle.lowering_soundness.specs.type_check.Binders.{all_annotated, annotations, entries}
use Rattle.lowering_soundness.specs.type_check.Typing.{bound_by, parameter_scope}
use Rattle.lowering_soundness.specs.type_check.World.{World, world, chosen, field_types}
use Rattle.lowering_soundness.specs.type_check.Faults.{fill_binders, fill_pattern, fill_patterns, fill, fill_block, fill_clauses, fill_instance, filled, found, found_block, found_argument}
use Rattle.lowering_soundness.specs.fip_rules.Shapes.{binders, binders_all}
use Rattle.lowering_soundness.specs.derivation_check.Scopes.{within, within_block, within_clauses}
use Rattle.derivation_correctness.specs.source_report.Report.{IsParsed, IsFlat, IsTyped}
use Rattle.compiler_correctness.proofs.Headers.{from_map}

-- ---- a function has a result

abbrev Gives : Function → Type 0
Gives f = 0 < length (result_types f.result)

abbrev DeclarationGives : S.Declaration → Type 0
DeclarationGives (S.DataDeclaration d) = Unit {0}
DeclarationGives (S.FunctionDeclaration f) = 0 < length (result_types f.result)

result_some : (ts : List Token) (r : Result) (rest : List Token) → Result' ts r rest → 0 < length (result_types r)
result_some ts (OneResult t) rest h = omega arith
result_some ts (TupleResult p []) rest h = absurd h
result_some ts (TupleResult p (t ∷ [])) rest h = absurd h
result_some ts (TupleResult p (t ∷ u ∷ us)) rest h = omega arith

parts_give : (ts : List Token) (xs : List Static) (ps : List S.Parameter) (r : Result) (b : S.Block) (rest : List Token) → FunctionParts ts xs ps r b rest → 0 < length (result_types r)
parts_give ts xs ps r b rest h = result_some h.3 r h.4 h.11

declaration_gives : (ts : List Token) (d : S.Declaration) (rest : List Token) → Declaration' ts d rest → DeclarationGives d
declaration_gives ts (S.DataDeclaration d) rest h = tt
declaration_gives ts (S.FunctionDeclaration f) rest h = parts_give h.2 f.statics f.parameters f.result f.body rest h.6

program_gives : (ts : List Token) (ds : List S.Declaration) → Spells ts ds → Every DeclarationGives ds
program_gives ts [] h = tt
program_gives ts (d ∷ ds) h = (declaration_gives ts d h.0 h.1, program_gives h.0 ds h.2)

core_gives : (ds : List S.Declaration) → Every DeclarationGives ds → Every Gives (core_form ds).functions
core_gives [] h = tt
core_gives (S.DataDeclaration d ∷ ds) h = core_gives ds h.1
core_gives (S.FunctionDeclaration f ∷ ds) h = (h.0, core_gives ds h.1)

parsed_gives : (source : List ℕ) (core : Core) → IsParsed source core → Every Gives core.functions
parsed_gives source core h = subst (λ (c : Core). Every Gives c.functions) (sym h.is) (core_gives h.tree (program_gives h.spelt.0 h.tree h.spelt.3))

-- ---- how many binders are in its body

both_many : (xs ys : List Binder) → length (xs ++ ys) ≡ length xs + length ys
both_many [] ys = omega arith
both_many (x ∷ xs) ys = let r = both_many xs ys in omega (arith, r)

module _ (s : Source) (ns : Numbers) (here : Instance) where
  mutual
    flat_pattern_many : (p : C.Pattern) → length (binders (flat_pattern s ns here p)) ≡ binders_in_pattern p
    flat_pattern_many (C.BinderPattern b) = refl
    flat_pattern_many (C.LiteralPattern i p) = refl
    flat_pattern_many (C.ConstructorPattern x p ps) = flat_patterns_many ps

    flat_patterns_many : (ps : C.Patterns) → length (binders_all (flat_patterns s ns here ps)) ≡ binders_in_patterns ps
    flat_patterns_many C.NoPatterns = refl
    flat_patterns_many (C.MorePatterns p ps) =
        let e = both_many (binders (flat_pattern s ns here p)) (binders_all (flat_patterns s ns here ps)) in
        let x = flat_pattern_many p in
        let y = flat_patterns_many ps in
        omega (arith, e, x, y)

  mutual
    flat_many : (e : C.Expression) → within (flat_expression s ns here e) ≡ binders_in_expression e
    flat_many (C.Give a) = refl
    flat_many (C.Tuple p as') = refl
    flat_many (C.Operation o p a b) = refl
    flat_many (C.Call x p ws as') = refl
    flat_many (C.Match d p a C.NoClauses) = refl
    flat_many (C.Match d p a (C.MoreClauses q b cs)) =
        let x = flat_pattern_many q in
        let y = flat_block_many b in
        let z = flat_clauses_many cs in
        omega (arith, x, y, z)
    flat_many (C.Nested b) = flat_block_many b

    flat_block_many : (b : C.Block) → within_block (flat_block s ns here b) ≡ binders_in_block b
    flat_block_many (C.Last e) = flat_many e
    flat_block_many (C.Let bs e rest) =
        let x = map_length (flat_binder s ns here) bs in
        let y = flat_many e in
        let z = flat_block_many rest in
        omega (arith, x, y, z)

    flat_clauses_many : (cs : C.Clauses) → within_clauses (flat_clauses s ns here cs) ≡ binders_in_clauses cs
    flat_clauses_many C.NoClauses = refl
    flat_clauses_many (C.MoreClauses q b cs) =
        let x = flat_pattern_many q in
        let y = flat_block_many b in
        let z = flat_clauses_many cs in
        omega (arith, x, y, z)

fill_binders_many : (ts : List (Option ℕ)) (bs : List Binder) → length (fill_binders ts bs) ≡ length bs
fill_binders_many ts [] = refl
fill_binders_many ts (b ∷ bs) = ap suc (fill_binders_many (others ts) bs)

module _ (w : World) where
  mutual
    fill_pattern_many : (t : Option ℕ) (p : T.Pattern) → length (binders (fill_pattern w t p)) ≡ length (binders p)
    fill_pattern_many t (T.BinderPattern b) = refl
    fill_pattern_many t (T.LiteralPattern i p) = refl
    fill_pattern_many t (T.ConstructorPattern u d c x p ps) = fill_patterns_many (field_types w (chosen w (Some t) d) c) ps

    fill_patterns_many : (ts : List (Option ℕ)) (ps : T.Patterns) → length (binders_all (fill_patterns w ts ps)) ≡ length (binders_all ps)
    fill_patterns_many ts T.NoPatterns = refl
    fill_patterns_many ts (T.MorePatterns p ps) =
        let a = both_many (binders (fill_pattern w (first_type ts) p)) (binders_all (fill_patterns w (others ts) ps)) in
        let b = both_many (binders p) (binders_all ps) in
        let x = fill_pattern_many (first_type ts) p in
        let y = fill_patterns_many (others ts) ps in
        omega (arith, a, b, x, y)

  mutual
    fill_many : (s : Scope) (b : Bool) (ts : List (Option ℕ)) (e : T.Expression) → within (fill w s b ts e) ≡ within e
    fill_many s b ts (T.Give a) = refl
    fill_many s b ts (T.Tuple l as') = refl
    fill_many s b ts (T.Operation o l x y) = refl
    fill_many s b ts (T.Call g x l as') = refl
    fill_many s b ts (T.Match k u l a r body cs) =
        let x = fill_pattern_many (found_argument w s None a) r in
        let y = fill_block_many (s ++ bound_by w (found_argument w s None a) r) b ts body in
        let z = fill_clauses_many s (found_argument w s None a) (wanted_next b ts (found_block w (s ++ bound_by w (found_argument w s None a) r) b ts body)) cs in
        omega (arith, x, y, z)
    fill_many s b ts (T.Nested d) = fill_block_many s b ts d

    fill_block_many : (s : Scope) (b : Bool) (ts : List (Option ℕ)) (d : T.Block) → within_block (fill_block w s b ts d) ≡ within_block d
    fill_block_many s b ts (T.Last e) = fill_many s b ts e
    fill_block_many s b ts (T.Let bs e rest) =
        let us = found w s (all_annotated bs) (annotations bs) e in
        let x = fill_binders_many us bs in
        let y = fill_many s (all_annotated bs) (annotations bs) e in
        let z = fill_block_many (s ++ entries bs us) b ts rest in
        omega (arith, x, y, z)

    fill_clauses_many : (s : Scope) (t : Option ℕ) (ts : List (Option ℕ)) (cs : T.Clauses) → within_clauses (fill_clauses w s t ts cs) ≡ within_clauses cs
    fill_clauses_many s t ts T.NoClauses = refl
    fill_clauses_many s t ts (T.MoreClauses r body cs) =
        let x = fill_pattern_many t r in
        let y = fill_block_many (s ++ bound_by w t r) true ts body in
        let z = fill_clauses_many s t ts cs in
        omega (arith, x, y, z)

-- ---- an instance

-- it has a result, few credits, and as many variables as binders
pub record IsRegular (d : T.Instance) : Type 0 where
  pub results : 0 < length d.results
  pub credits : length d.credits ≤ MOST_CREDITS
  pub variables : d.variables ≡ length d.params + within_block d.body

module _ (core : Core) (ns : Numbers) (gives : Every Gives core.functions) (few : (f : Function) → Among f core.functions → length f.credits ≤ MOST_CREDITS) where
  abbrev s : Source
  s = flat_source core

  flat_regular : (here : Instance) (f : Function) → Among f core.functions → IsRegular (flat_instance s ns here f)
  flat_regular here f a =
      let some = every_among Gives f core.functions gives a in
      let r = map_length (flat_type s ns here) (result_types f.result) in
      let c = map_length credit_size f.credits in
      let small = few f a in
      let ps = map_length (flat_parameter s ns here) f.parameters in
      let b = flat_block_many s ns here f.body in
      record {
        results = (omega (arith, some, r));
        credits = (omega (arith, c, small));
        variables = (omega (arith, ps, b));
      }

  from_option : (here : Instance) (o : Option Function) → ((f : Function) → o ≡ Some f → Among f core.functions) → (d : T.Instance) → Among d (instance_if s ns here o) → IsRegular d
  from_option here None h d a = absurd a
  from_option here (Some f) h d (inl e) = subst IsRegular (sym e) (flat_regular here f (h f refl))
  from_option here (Some f) h d (inr n) = absurd n

  from_closed : (c : Closed) (d : T.Instance) → Among d (instances_of s ns c) → IsRegular d
  from_closed Z.Int d a = absurd a
  from_closed (Applied (H.«Type» n) cs) d a = absurd a
  from_closed (Applied (H.Function f) cs) d a =
      from_option (record { function = f; given = cs }) (slice_get core.functions f) (λ g e. there_among core.functions f g e) d a

  all_regular : (d : T.Instance) → Among d (flat_program s ns).instances → IsRegular d
  all_regular d a = all_of_have IsRegular (instances_of s ns) ns.instances (λ c b e f. from_closed c e f) d a

fill_regular : (w : World) (d : T.Instance) → IsRegular d → IsRegular (fill_instance w d)
fill_regular w d h =
    let b = fill_block_many w (parameter_scope d) true (map Some d.results) d.body in
    let v = h.variables in
    record { results = h.results; credits = h.credits; variables = (omega (arith, b, v)) }

filled_regular : (p : Program) → ((d : T.Instance) → Among d p.instances → IsRegular d) → (d : T.Instance) → Among d (filled p).instances → IsRegular d
filled_regular p h = from_map IsRegular (fill_instance (world p)) p.instances (λ d a. fill_regular (world p) d (h d a))

flat_all_regular : (source : List ℕ) (p : Program) → IsFlat source p → (d : T.Instance) → Among d p.instances → IsRegular d
flat_all_regular source p h =
    subst (λ (q : Program). (d : T.Instance) → Among d q.instances → IsRegular d) (sym h.is)
    (all_regular h.core h.numbers (parsed_gives source h.core h.declared.parsed) (few_marks h.core h.declared.unbroken))

pub typed_regular : (source : List ℕ) (p : Program) → IsTyped source p → (d : T.Instance) → Among d p.instances → IsRegular d
typed_regular source p h =
    subst (λ (q : Program). (d : T.Instance) → Among d q.instances → IsRegular d) (sym h.is)
    (filled_regular h.untyped (flat_all_regular source h.untyped h.flat))
