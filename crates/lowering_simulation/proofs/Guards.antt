-- Typed programs keep their types, by induction on the trees: where the scope gives a variable a type, the environment
-- has a value of it, and what an evaluation gives is of its types.
use Rattle.std.proofs.Common.{◌≡◌, ◌≢◌, ℕ, Bool, true, false, List, [], ◌++◌, map, Option, Some, sym, ◌∙◌, subst}
use Rattle.tree_refinement.specs.fip_language.Values.{Value, Values}
use Rattle.tree_refinement.specs.fip_language.Table.{Table, HasType, HaveTypes}
use Rattle.tree_refinement.specs.fip_language.Meaning.{Answer, Stuck, Environment, nothing_bound, bind_matched}
use Rattle.lowering_relation.specs.fip_trees.Tree.{Expression, Give, Tuple, Operation, Call, Match, Nested, Block, Last, Let, Clauses, NoClauses, MoreClauses, Program}
use Rattle.type_safety.specs.type_check.Binders.{all_annotated, entries}
use Rattle.type_safety.specs.type_check.Scope.{Scope}
use Rattle.type_safety.specs.type_check.World.{Head, world, head}
use Rattle.type_safety.specs.type_check.Typing.{bound_by, Types, TypesBlock, TypesClauses, parameter_entries, IsFilled}
use Rattle.tree_refinement.specs.cell_code.Plain.{PlainCode, all_instrs}
use Rattle.lowering_relation.specs.instance_semantics.Registers.{frame_words}
use Rattle.lowering_relation.specs.instance_semantics.Meaning.{bind_binders, argument_value, argument_values, Calls, calls_of, flat_meaning}
use Rattle.type_safety.specs.Formed.{FormedExpression, FormedBlock, FormedClauses, IsFormed}
use Rattle.type_safety.specs.Soundness.{IsTypedAnswer}
use Rattle.type_safety.proofs.Scopes.{Held, EnvHas, let_has, parameters_have, pattern_has}
use Rattle.type_safety.proofs.WellTyped.{AllHeld, head_is, typed_at, formed_at, argument_has, arguments_have, nothing_has}
use Rattle.type_safety.proofs.Gains.{CallsGain, expression_gained, calls_gained}
use Rattle.lowering_relation.specs.tree_semantics.Runs.{begun, entry}
use Rattle.lowering_relation.specs.LoweredBodies.{function_of}
use Rattle.lowering_relation.specs.LoweredFunctions.{AreLowered}
use Rattle.lowering_simulation.specs.Distinct.{AreDistinct}
use Rattle.lowering_simulation.specs.RunEnds.{EndsIn}
use Rattle.lowering_simulation.specs.Guarded.{Takes, GuardedExpression, GuardedBlock, GuardedClauses, IsGuarded}
use Rattle.lowering_simulation.proofs.Whole.{runs_end}
use Rattle.type_safety.proofs.type_check.fip_language.Facts.{same_some}

-- the value that is held
held_is : (tb : Table) (o : Option Value) (t : ℕ) (v : Value) → Held tb o t → o ≡ Some v → HasType tb t v
held_is tb o t v h e = subst (HasType tb t) (same_some h.0 v (sym h.1 ∙ e)) h.2

all_held_are : (tb : Table) (o : Option Values) (ts : List ℕ) (vs : Values) → AllHeld tb o ts → o ≡ Some vs → HaveTypes tb ts vs
all_held_are tb o ts vs h e = subst (HaveTypes tb ts) (same_some h.0 vs (sym h.1 ∙ e)) h.2

module _ (p : Program) (well : IsFormed p) (calls : Calls) (gain : CallsGain p calls) (words : ℕ) where
  mutual
    pub expression_guarded : (s : Scope) (b : Bool) (e : Expression) (ts : List ℕ) (d : ℕ) (env : Environment) (k : ℕ) → FormedExpression p e → Types true (world p) s b e ts → EnvHas p.types s env → GuardedExpression p calls words e d env k
    expression_guarded s b (Give a) ts d env k f h has = tt
    expression_guarded s b (Tuple q as') ts d env k f h has = tt
    expression_guarded s b (Operation o q l r) ts d env k f h has = tt
    expression_guarded s b (Call g n q as') ts d env k f h has =
        λ vs e instance there.
        subst (λ (y : Head). HaveTypes p.types y.parameters vs) (head_is p.instances g instance there)
        (all_held_are p.types (argument_values env as') (head (world p) g).parameters vs (arguments_have p s env has true as' (head (world p) g).parameters f.1 h.1) e)
    expression_guarded s b (Match ds u q a r body cs) ts d env k f h has =
        λ v e.
        let typed = held_is p.types (argument_value env a) h.0 v (argument_has p s env has false a h.0 f.0 h.2) e in (
          subst (λ t. HasType p.types t v) (sym h.1) typed,
          λ bs m. block_guarded (s ++ bound_by (world p) (Some h.0) r) b body ts d (bind_matched env bs) k f.1 h.4 (pattern_has (world p) h.0 r v bs s env h.3 typed m has),
          clauses_guarded s h.0 cs v ts d env k f.2 h.5 has typed,
        )
    expression_guarded s b (Nested e) ts d env k f h has = block_guarded s b e ts d env k f h has

    pub block_guarded : (s : Scope) (b : Bool) (e : Block) (ts : List ℕ) (d : ℕ) (env : Environment) (k : ℕ) → FormedBlock p e → TypesBlock true (world p) s b e ts → EnvHas p.types s env → GuardedBlock p calls words e d env k
    block_guarded s b (Last e) ts d env k f h has = expression_guarded s b e ts d env k f h has
    block_guarded s b (Let bs e rest) ts d env k f h has = (
      expression_guarded s (all_annotated bs) e h.0 d env k f.0 h.1 has,
      λ vs left ev. block_guarded (s ++ entries bs (map Some h.0)) b rest ts d (bind_binders env bs vs) left f.1 h.3
          (let_has p.types s env bs h.0 vs has h.2
          (subst (IsTypedAnswer p.types h.0) ev (expression_gained p well calls gain words s (all_annotated bs) e h.0 false d env k f.0 h.1 has))),
    )

    clauses_guarded : (s : Scope) (t : ℕ) (cs : Clauses) (v : Value) (ts : List ℕ) (d : ℕ) (env : Environment) (k : ℕ) → FormedClauses p cs → TypesClauses true (world p) s t cs ts → EnvHas p.types s env → HasType p.types t v → GuardedClauses p calls words cs v d env k
    clauses_guarded s t NoClauses v ts d env k f h has g = tt
    clauses_guarded s t (MoreClauses r body cs) v ts d env k f h has g = (
      λ bs m. block_guarded (s ++ bound_by (world p) (Some t) r) true body ts d (bind_matched env bs) k f.0 h.1 (pattern_has (world p) t r v bs s env h.0 g m has),
      clauses_guarded s t cs v ts d env k f.1 h.2 has g,
    )

pub guarded : (p : Program) → IsFormed p → IsFilled p → IsGuarded p
guarded p well filled = record {
  by = λ m g d vs free left there typed.
      block_guarded p well (calls_of p m) (calls_gained p well filled m) (frame_words d) (parameter_entries d.params d.binders) true d.body d.results free (bind_binders nothing_bound d.binders vs) left
      (formed_at p p.instances g d well.bodies there).body (typed_at (world p) p.instances g d filled there).3
      (parameters_have p.types [] nothing_bound d.params d.binders vs (nothing_has p.types) typed);
}

pub typed_runs_end : (code : PlainCode) (p : Program) → AreLowered p (all_instrs code) → IsFormed p → IsFilled p → AreDistinct p → (g f : ℕ) (vs : Values) (calls frames : ℕ) (a : Answer) → function_of p.instances g ≡ Some f → Takes p g vs → (flat_meaning p g vs calls frames).answer ≡ a → a ≢ Stuck → EndsIn code (begun (entry f vs frames) calls) a
typed_runs_end code p lowered well filled distinct = runs_end code p lowered (guarded p well filled) distinct
