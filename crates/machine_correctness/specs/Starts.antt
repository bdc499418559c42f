-- The code of an accepted source, and the states in which its functions begin on arguments.
--
-- Of the reversal of a list the source has one fip function, so its code has one: six instructions and the name rev.
-- Loaded with Cons(1, Cons(2, Nil)) and Nil it begins with two cells and the words 7 and 0.
use Rattle.std.specs.Prelude.{◌≡◌, ℕ, List, [], map, Some}
use Rattle.fip_machine.specs.fip_language.Core.{Core}
use Rattle.fip_machine.specs.fip_language.Store.{values_of}
use Rattle.fip_machine.specs.fip_language.Values.{Values}
use Rattle.compiler_correctness.specs.fip_trees.declared.groups.Member.{Member}
use Rattle.compiler_correctness.specs.fip_trees.Tree.{Program}
use Rattle.fip_machine.specs.cell_code.declared.code.Code.{Code}
use Rattle.compiler_correctness.specs.machine_semantics.Apart.{IsGiven}
use Rattle.fip_machine.specs.cell_code.Plain.{PlainFunction, plain, function_at, all_instrs}
use Rattle.compiler_correctness.specs.machine_semantics.Runs.{loaded}
use Rattle.compiler_correctness.specs.machine_semantics.States.{State}
use Rattle.run_loading.specs.code_rules.Breaks.{IsSound}
use Rattle.run_loading.specs.separation.Codes.{HasLiterals}
use Rattle.compiler_correctness.specs.lowering_relation.LoweredFunctions.{AreLowered}
use Rattle.compiler_correctness.specs.cell_lower.Shape.{header, headers}
use Rattle.compiler_correctness.specs.source_report.Report.{IsParsed, IsAccepted}

-- Code that breaks no rule of sound code, whose ints have 64 bits.
pub record IsSoundCode (code : Code) : Type 0 where
  pub sound : IsSound (plain code)
  pub literals : HasLiterals (plain code)

-- The source has this core form and breaks no rule; the code is sound, and lowered from its program: it has the
-- program's types, and for each instance that isn't plain a function with its header and these instructions.
pub record IsCodeOf (source : List ℕ) (core : Core) (code : Code) : Type 0 where
  pub program : Program
  pub members : List Member
  pub parsed : IsParsed source core
  pub accepted : IsAccepted source program
  pub types : code.types ≡ program.types
  pub functions : map header code.functions.items ≡ headers members program.instances
  pub lowered : AreLowered program (all_instrs (plain code))
  pub is_sound : IsSoundCode code

-- Function f, which is number n of the code, begins in state s: its words stand for these arguments, there is a cell
-- for each of its credits, and so many frames are free.
pub record Begins (code : Code) (n : ℕ) (f : PlainFunction) (vs : Values) (frames : ℕ) (s : State) : Type 0 where
  pub is : function_at (plain code) n ≡ Some f
  pub words : List ℕ
  pub given : IsGiven code.types f s.store [] words
  pub values : values_of given.arguments ≡ vs
  pub loaded : loaded (plain code) n s.store words frames ≡ Some s
