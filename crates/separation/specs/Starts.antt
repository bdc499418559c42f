-- The states in which a run of sound code begins: the entry has arguments that stand for values of its parameters'
-- types, and a cell of its size for each of its credits, and these, the kept and the released cells are all cells.
--
-- The reversal of a list begins with the words of two lists whose cells are all cells, where none is kept or released.
use Rattle.std.specs.Prelude.{◌≡◌, ℕ, List, Some}
use Rattle.separation_kinds.specs.machine_semantics.Steps.{Kinds}
use Rattle.separation_kinds.specs.machine_semantics.States.{State}
use Rattle.separation_kinds.specs.machine_semantics.Runs.{loaded}
use Rattle.separation_kinds.specs.machine_semantics.Given.{IsGiven}
use Rattle.separation_kinds.specs.cell_code.Plain.{PlainFunction, PlainCode, function_at}
use Rattle.separation_kinds.specs.code_rules.Breaks.{IsSound}
use Rattle.separation.specs.Codes.{HasLiterals, AreKinds}

-- Function n of a sound code begins in state s, beside these kept cells.
pub record IsStart (c : PlainCode) (before waits : Kinds) (n : ℕ) (kept : List ℕ) (s : State) : Type 0 where
  pub sound : IsSound c
  pub literals : HasLiterals c
  pub kinds : AreKinds c before waits
  pub function : PlainFunction
  pub is : function_at c n ≡ Some function
  pub words : List ℕ
  pub given : IsGiven c.types function s.store kept words
  pub free : ℕ
  pub loaded : loaded c n s.store words free ≡ Some s
