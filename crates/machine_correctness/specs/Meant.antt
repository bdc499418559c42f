-- When what a machine answers of a run is what is meant.
--
-- rev of Cons(1, Nil) and Nil, with 5 calls, means Cons(1, Nil); the machine answers Value, and the word of its result
-- stands for this in its last state. With 1 call both are out of calls.
use Rattle.std.specs.Prelude.{◌≡◌, ℕ, List}
use Rattle.fip_machine.specs.fip_language.Meaning.{Answer, Gives, Trap, Out, Deep, Stuck}
use Rattle.fip_machine.specs.fip_language.Store.{Parts, values_of, words_of}
use Rattle.fip_machine.specs.fip_language.Table.{Table}
use Rattle.fip_machine.specs.fip_language.Values.{Values}
use Rattle.fip_machine.specs.cell_store.Cells.{Cells}
use Rattle.compiler_correctness.specs.machine_semantics.States.{State}
use Rattle.run_loading.specs.tree_refinement.Agreement.{AreWordsOf}
use Rattle.fip_machine.specs.declared.machine.Ended.{Ended}
use Rattle.fip_machine.specs.declared.machine.Ended.TheVariants as M
use Rattle.value_text.specs.Standing.{StandAll}

-- The machine ended so, in this last state, with these words of results of these types; this is the answer that is
-- meant.
abbrev pub IsMeant : Table → List ℕ → Ended → State → List ℕ → Answer → Type 0
IsMeant tb types M.Value last given (Gives vs left) = AreWordsOf tb last.store types given vs
IsMeant tb types M.Value last given (Trap l row at) = ⊥
IsMeant tb types M.Value last given Out = ⊥
IsMeant tb types M.Value last given Deep = ⊥
IsMeant tb types M.Value last given Stuck = ⊥
IsMeant tb types (M.Trap k line col) last given (Gives vs left) = ⊥
IsMeant tb types (M.Trap k line col) last given (Trap l row at) = (k ≡ l) × (line ≡ row) × (col ≡ at)
IsMeant tb types (M.Trap k line col) last given Out = ⊥
IsMeant tb types (M.Trap k line col) last given Deep = ⊥
IsMeant tb types (M.Trap k line col) last given Stuck = ⊥
IsMeant tb types M.Out last given a = a ≡ Out
IsMeant tb types M.Deep last given a = a ≡ Deep

-- These words of these types stand for the values, in the sense of who prints them: they are those of trees that lie in
-- the cells.
pub record ArePrintable (tb : Table) (cells : Cells) (types words : List ℕ) (vs : Values) : Type 0 where
  pub trees : Parts
  pub are : words ≡ words_of trees
  pub stand : StandAll tb cells types trees
  pub values : values_of trees ≡ vs
