-- How a run on cells ends as a program means, and which function of a code is that of an instance.
-- The reversal of Cons(1, Nil) and Nil means Cons(1, Nil); with 5 calls its run ends with a word that stands for this
-- in its last state, and 3 calls are left.
use Rattle.std.specs.Prelude.{◌≡◌, ℕ, Some, slice_get}
use Rattle.tree_refinement.specs.fip_language.Meaning.{Answer}
use Rattle.lowering_relation.specs.fip_trees.Tree.{Instance, Program}
use Rattle.lowering_relation.specs.machine_semantics.Steps.{Kinds}
use Rattle.lowering_relation.specs.machine_semantics.States.{State}
use Rattle.lowering_relation.specs.machine_semantics.Runs.{End, Ends}
use Rattle.tree_refinement.specs.cell_code.Plain.{PlainCode, results}
use Rattle.lowering_relation.specs.code_rules.Codes.{params}
use Rattle.lowering_relation.specs.FunctionNumbers.{function_of}
use Rattle.tree_refinement.specs.Endings.{IsSameEnd}

-- The run of function n from this state, with so many calls, is over after enough steps, as this answer says: with
-- words that stand for its values and with the calls that it leaves, in the same trap, or out of calls or frames.
pub record EndsAs (c : PlainCode) (before : Kinds) (n : ℕ) (s : State) (calls : ℕ) (a : Answer) : Type 0 where
  pub end : End
  pub last : State
  pub left : ℕ
  pub steps : ℕ
  pub ends : Ends before c s calls end last left steps
  pub same : IsSameEnd c.types (results c n) last left end a

-- Function f of the code is that of instance g: the code has the types of the program, and the function the parameters
-- of the instance.
pub record IsFunctionOf (program : Program) (g : ℕ) (c : PlainCode) (f : ℕ) : Type 0 where
  pub function : function_of program.instances g ≡ Some f
  pub types : c.types ≡ program.types
  pub takes : (d : Instance) → slice_get program.instances g ≡ Some d → params c f ≡ d.params
