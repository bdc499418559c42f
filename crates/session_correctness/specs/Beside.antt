-- The states in which a function of a code begins beside cells that are kept: what names hold that the call isn't given.
--
-- While a holds Cons(2, Nil), rev of Cons(1, Nil) and Nil begins with its own cell, and the cell of a's value is kept.
use Rattle.std.specs.Prelude.{◌≡◌, ℕ, List, Some}
use Rattle.tree_refinement.specs.fip_language.Store.{values_of}
use Rattle.tree_refinement.specs.fip_language.Values.{Values}
use Rattle.tree_refinement.specs.cell_code.declared.code.Code.{Code}
use Rattle.tree_refinement.specs.machine_semantics.Apart.{IsGiven}
use Rattle.tree_refinement.specs.cell_code.Plain.{PlainFunction, plain, function_at}
use Rattle.tree_refinement.specs.machine_semantics.Runs.{loaded}
use Rattle.tree_refinement.specs.machine_semantics.States.{State}

-- Function f, which is number n of the code, begins in state s beside these kept cells: its words stand for these
-- arguments, there is a cell for each of its credits, and so many frames are free.
pub record BeginsBeside (code : Code) (n : ℕ) (f : PlainFunction) (vs : Values) (frames : ℕ) (kept : List ℕ)
    (s : State) : Type 0 where
  pub is : function_at (plain code) n ≡ Some f
  pub words : List ℕ
  pub given : IsGiven code.types f s.store kept words
  pub values : values_of given.arguments ≡ vs
  pub loaded : loaded (plain code) n s.store words frames ≡ Some s
