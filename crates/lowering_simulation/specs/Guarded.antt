-- It serves the proof that lowered code means what its program means: a program keeps its types. Each match that an
-- evaluation reaches has a value of the match's type, and each call has arguments of its parameters' types. A test of
-- a value of another type would say nothing.
use Rattle.std.specs.Prelude.{◌≡◌, ℕ, false, List, map, Some, slice_get}
use Rattle.tree_refinement.specs.fip_language.Values.{Value, Values}
use Rattle.tree_refinement.specs.fip_language.Table.{HasType, HaveTypes}
use Rattle.tree_refinement.specs.fip_language.Matching.{Binding}
use Rattle.tree_refinement.specs.fip_language.Meaning.{Gives, Environment, nothing_bound, bind_matched}
use Rattle.tree_refinement.specs.fip_base.declared.plain.Param.{Param}
use Rattle.lowering_relation.specs.fip_trees.Tree.{Expression, Give, Tuple, Operation, Call, Match, Nested, Block, Last, Let}
use Rattle.lowering_relation.specs.fip_trees.Tree.{Clauses, NoClauses, MoreClauses, Instance, Program}
use Rattle.lowering_relation.specs.instance_semantics.Matching.{matching}
use Rattle.lowering_relation.specs.instance_semantics.Registers.{frame_words}
use Rattle.lowering_relation.specs.instance_semantics.Meaning.{bind_binders, argument_value, argument_values, Calls, eval, calls_of}

abbrev pub type_of : Param → ℕ
type_of p = p.ty

-- the values have the types of instance g's parameters
abbrev pub Takes : Program → ℕ → Values → Type 0
Takes program g vs =
    (d : Instance) → slice_get program.instances g ≡ Some d → HaveTypes program.types (map type_of d.params) vs

abbrev mutual
  pub GuardedExpression : Program → Calls → ℕ → Expression → ℕ → Environment → ℕ → Type 0
  GuardedExpression program calls w (Give a) d env k = Unit {0}
  GuardedExpression program calls w (Tuple p as') d env k = Unit {0}
  GuardedExpression program calls w (Operation o p a b) d env k = Unit {0}
  GuardedExpression program calls w (Call g n p as') d env k =
      (vs : Values) → argument_values env as' ≡ Some vs → Takes program g vs
  GuardedExpression program calls w (Match ds t p a q b cs) d env k =
      (v : Value) → argument_value env a ≡ Some v → HasType program.types t v
      × ((bs : List Binding) → matching q v ≡ Some bs → GuardedBlock program calls w b d (bind_matched env bs) k)
      × GuardedClauses program calls w cs v d env k
  GuardedExpression program calls w (Nested b) d env k = GuardedBlock program calls w b d env k

  pub GuardedBlock : Program → Calls → ℕ → Block → ℕ → Environment → ℕ → Type 0
  GuardedBlock program calls w (Last e) d env k = GuardedExpression program calls w e d env k
  GuardedBlock program calls w (Let bs e rest) d env k =
      GuardedExpression program calls w e d env k
      × ((vs : Values) (left : ℕ) → (eval calls w e false d env k).answer ≡ Gives vs left →
      GuardedBlock program calls w rest d (bind_binders env bs vs) left)

  pub GuardedClauses : Program → Calls → ℕ → Clauses → Value → ℕ → Environment → ℕ → Type 0
  GuardedClauses program calls w NoClauses v d env k = Unit {0}
  GuardedClauses program calls w (MoreClauses q b cs) v d env k =
      ((bs : List Binding) → matching q v ≡ Some bs → GuardedBlock program calls w b d (bind_matched env bs) k)
      × GuardedClauses program calls w cs v d env k

pub record IsGuarded (program : Program) : Type 0 where
  pub by : (m g : ℕ) (d : Instance) (vs : Values) (free left : ℕ) → slice_get program.instances g ≡ Some d →
      HaveTypes program.types (map type_of d.params) vs →
      GuardedBlock program (calls_of program m) (frame_words d) d.body free
      (bind_binders nothing_bound d.binders vs) left
