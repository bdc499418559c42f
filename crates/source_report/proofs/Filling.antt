-- Typing fills slots, and changes nothing else: a well-formed program stays well formed, and its literals are the same.
use Rattle.std.proofs.Common.{◌≡◌, ◌<◌, inl, inr, ℕ, List, [], ◌∷◌, ◌++◌, Bool, length, map, Option, Some, None, refl, sym, ap, subst}
use Rattle.cell_lower.specs.fip_language.Every.{Among}
use Rattle.cell_lower.specs.fip_trees.Tree as T
use Rattle.cell_lower.specs.fip_trees.Tree.{Program}
use Rattle.lowering_simulation.specs.type_check.Found.{first_type, others, wanted_next}
use Rattle.lowering_simulation.specs.type_check.Scope.{Scope}
use Rattle.lowering_simulation.specs.type_check.Binders.{all_annotated, annotations, entries}
use Rattle.lowering_simulation.specs.type_check.Typing.{bound_by, parameter_scope}
use Rattle.lowering_simulation.specs.type_check.World.{world, chosen, field_types}
use Rattle.lowering_simulation.specs.type_check.Faults.{fill_pattern, fill_patterns, fill, fill_block, fill_clauses, fill_instance, filled, found, found_block, found_argument}
use Rattle.source_report.specs.WellFormed.{IsKnownPattern, AreKnownPatterns, IsKnown, IsKnownBlock, AreKnownClauses, IsKnownInstance, IsWellFormed}
use Rattle.source_report.specs.Literals.{FitsPattern, FitPatterns, Fits, FitsBlock, FitClauses, LiteralsFit}
use Rattle.cell_lower.proofs.fip_language.Facts.{map_length}

pub from_map : {A B : Type 0} (P : B → Type 0) (f : A → B) (xs : List A) → ((x : A) → Among x xs → P (f x)) → (y : B) → Among y (map f xs) → P y
from_map P f [] h y a = absurd a
from_map P f (x ∷ xs) h y (inl e) = subst P (sym e) (h x (inl refl))
from_map P f (x ∷ xs) h y (inr a) = from_map P f xs (λ z b. h z (inr b)) y a

module _ (p : Program) where
  abbrev q : Program
  q = filled p

  calls_kept : (g : ℕ) → g < length p.instances → g < length q.instances
  calls_kept g h = subst (λ n. g < n) (sym (map_length (fill_instance (world p)) p.instances)) h

  mutual
    pattern_kept : (t : Option ℕ) (r : T.Pattern) → IsKnownPattern p r → IsKnownPattern q (fill_pattern (world p) t r)
    pattern_kept t (T.BinderPattern b) h = tt
    pattern_kept t (T.LiteralPattern i l) h = tt
    pattern_kept t (T.ConstructorPattern u d c n l rs) h = (h.0, patterns_kept (field_types (world p) (chosen (world p) (Some t) d) c) rs h.1)

    patterns_kept : (ts : List (Option ℕ)) (rs : T.Patterns) → AreKnownPatterns p rs → AreKnownPatterns q (fill_patterns (world p) ts rs)
    patterns_kept ts T.NoPatterns h = tt
    patterns_kept ts (T.MorePatterns r rs) h = (pattern_kept (first_type ts) r h.0, patterns_kept (others ts) rs h.1)

  mutual
    expression_kept : (s : Scope) (b : Bool) (ts : List (Option ℕ)) (e : T.Expression) → IsKnown p e → IsKnown q (fill (world p) s b ts e)
    expression_kept s b ts (T.Give a) h = tt
    expression_kept s b ts (T.Tuple l as') h = tt
    expression_kept s b ts (T.Operation o l x y) h = tt
    expression_kept s b ts (T.Call g n l as') h = calls_kept g h
    expression_kept s b ts (T.Match k u l a r body cs) h = (
      pattern_kept (found_argument (world p) s None a) r h.0,
      block_kept (s ++ bound_by (world p) (found_argument (world p) s None a) r) b ts body h.1,
      clauses_kept s (found_argument (world p) s None a) (wanted_next b ts (found_block (world p) (s ++ bound_by (world p) (found_argument (world p) s None a) r) b ts body)) cs h.2,
    )
    expression_kept s b ts (T.Nested d) h = block_kept s b ts d h

    block_kept : (s : Scope) (b : Bool) (ts : List (Option ℕ)) (d : T.Block) → IsKnownBlock p d → IsKnownBlock q (fill_block (world p) s b ts d)
    block_kept s b ts (T.Last e) h = expression_kept s b ts e h
    block_kept s b ts (T.Let bs e rest) h = (
      expression_kept s (all_annotated bs) (annotations bs) e h.0,
      block_kept (s ++ entries bs (found (world p) s (all_annotated bs) (annotations bs) e)) b ts rest h.1,
    )

    clauses_kept : (s : Scope) (t : Option ℕ) (ts : List (Option ℕ)) (cs : T.Clauses) → AreKnownClauses p cs → AreKnownClauses q (fill_clauses (world p) s t ts cs)
    clauses_kept s t ts T.NoClauses h = tt
    clauses_kept s t ts (T.MoreClauses r body cs) h =
        (pattern_kept t r h.0, block_kept (s ++ bound_by (world p) t r) Rattle.std.specs.Prelude.true ts body h.1, clauses_kept s t ts cs h.2)

  instance_kept : (d : T.Instance) → IsKnownInstance p d → IsKnownInstance q (fill_instance (world p) d)
  instance_kept d h =
      record {
        parameters = h.parameters;
        results = h.results;
        body = block_kept (parameter_scope d) Rattle.std.specs.Prelude.true (map Some d.results) d.body h.body;
      }

  -- ---- literals

  mutual
    pattern_fits : (t : Option ℕ) (r : T.Pattern) → FitsPattern r → FitsPattern (fill_pattern (world p) t r)
    pattern_fits t (T.BinderPattern b) h = tt
    pattern_fits t (T.LiteralPattern i l) h = h
    pattern_fits t (T.ConstructorPattern u d c n l rs) h = patterns_fit (field_types (world p) (chosen (world p) (Some t) d) c) rs h

    patterns_fit : (ts : List (Option ℕ)) (rs : T.Patterns) → FitPatterns rs → FitPatterns (fill_patterns (world p) ts rs)
    patterns_fit ts T.NoPatterns h = tt
    patterns_fit ts (T.MorePatterns r rs) h = (pattern_fits (first_type ts) r h.0, patterns_fit (others ts) rs h.1)

  mutual
    expression_fits : (s : Scope) (b : Bool) (ts : List (Option ℕ)) (e : T.Expression) → Fits e → Fits (fill (world p) s b ts e)
    expression_fits s b ts (T.Give a) h = tt
    expression_fits s b ts (T.Tuple l as') h = tt
    expression_fits s b ts (T.Operation o l x y) h = tt
    expression_fits s b ts (T.Call g n l as') h = tt
    expression_fits s b ts (T.Match k u l a r body cs) h = (
      pattern_fits (found_argument (world p) s None a) r h.0,
      block_fits (s ++ bound_by (world p) (found_argument (world p) s None a) r) b ts body h.1,
      clauses_fit s (found_argument (world p) s None a) (wanted_next b ts (found_block (world p) (s ++ bound_by (world p) (found_argument (world p) s None a) r) b ts body)) cs h.2,
    )
    expression_fits s b ts (T.Nested d) h = block_fits s b ts d h

    block_fits : (s : Scope) (b : Bool) (ts : List (Option ℕ)) (d : T.Block) → FitsBlock d → FitsBlock (fill_block (world p) s b ts d)
    block_fits s b ts (T.Last e) h = expression_fits s b ts e h
    block_fits s b ts (T.Let bs e rest) h = (
      expression_fits s (all_annotated bs) (annotations bs) e h.0,
      block_fits (s ++ entries bs (found (world p) s (all_annotated bs) (annotations bs) e)) b ts rest h.1,
    )

    clauses_fit : (s : Scope) (t : Option ℕ) (ts : List (Option ℕ)) (cs : T.Clauses) → FitClauses cs → FitClauses (fill_clauses (world p) s t ts cs)
    clauses_fit s t ts T.NoClauses h = tt
    clauses_fit s t ts (T.MoreClauses r body cs) h =
        (pattern_fits t r h.0, block_fits (s ++ bound_by (world p) t r) Rattle.std.specs.Prelude.true ts body h.1, clauses_fit s t ts cs h.2)

pub stays_formed : (p : Program) → IsWellFormed p → IsWellFormed (filled p)
stays_formed p h =
    record {
      declared = h.declared;
      bool = h.bool;
      fields = h.fields;
      inhabited = h.inhabited;
      instances = from_map (IsKnownInstance (filled p)) (fill_instance (world p)) p.instances (λ d a. instance_kept p d (h.instances d a));
    }

pub stays_fitting : (p : Program) → LiteralsFit p → LiteralsFit (filled p)
stays_fitting p h = from_map (λ (d : T.Instance). FitsBlock d.body) (fill_instance (world p)) p.instances (λ d a. block_fits p (parameter_scope d) Rattle.std.specs.Prelude.true (map Some d.results) d.body (h d a))
