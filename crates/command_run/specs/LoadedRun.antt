-- The run of a function on an input from its loaded state, place by place: that of which `trace` reports, and whose
-- last state `exec`, `run`, `gen` and `trace` leave.
--
-- In the store of the loaded state lie just the cells of the values that the input encodes, in the order of the ) in
-- their text, and after them one for each credit of the function's header; none is released. The function has their
-- words, and as many frames are free as it needs, where it is fip, or as are given.
--
-- The reversal of Cons(1, Cons(2, Nil)) and Nil begins with two cells, Cons(2, Nil) at 0 and Cons(1, ..) at 3, and the
-- words 7 and 0; it ends after 11 steps with the word 1, the cell at 0, which then holds 2 and the word 7.
use Rattle.std.specs.Prelude.{◌≡◌, ◌≤◌, ℕ, List, Option, Some}
use Rattle.fip_language.specs.Values.{Values}
use Rattle.fip_language.specs.ValueText.{SpellsValues}
use Rattle.fip_base.specs.declared.plain.Stack.{Stack}
use Rattle.command_words.specs.Words.{Room}
use Rattle.command_eval.specs.machine_correctness.machine_semantics.Runs.{End, Ends, loaded}
use Rattle.command_eval.specs.machine_correctness.machine_semantics.States.{State}
use Rattle.command_eval.specs.machine_correctness.machine_semantics.Steps.{Kinds}
use Rattle.command_eval.specs.machine_correctness.separation.Codes.{AreKinds}
use Rattle.code_verify.specs.cell_code.Plain.{PlainFunction, PlainCode, function_at}
use Rattle.command_eval.specs.machine_correctness.code_rules.StackNumbers.{HasStack}
use Rattle.command_eval.specs.machine_correctness.run_loading.Loading.{first_store, first_words}
use Rattle.command_eval.specs.machine_correctness.run_loading.Replaying.{trace_of}
use Rattle.command_eval.specs.machine_correctness.run_loading.TraceFile.{Trace}
use Rattle.session_semantics.specs.Talk.{frames_of}
use Rattle.value_text.specs.ParameterTypes.{types_of}
use Rattle.command_run.specs.CodeRun.{words_for}

-- Function n runs on these arguments, with cells for these credits, so many calls and free frames, from where they are
-- loaded to its end.
pub record LoadedRun (c : PlainCode) (n : ℕ) (vs : Values) (credits : List ℕ) (calls frames : ℕ) : Type 0 where
  pub before : Kinds
  pub waits : Kinds
  pub kinds : AreKinds c before waits
  pub first : State
  pub begins : loaded c n (first_store vs credits) (first_words vs credits) frames ≡ Some first
  pub end : End
  pub last : State
  pub left : ℕ
  pub steps : ℕ
  pub ends : Ends before c first calls end last left steps

-- its trace
abbrev pub trace_of_run : {c : PlainCode} {n : ℕ} {vs : Values} {credits : List ℕ} {calls frames : ℕ} →
    LoadedRun c n vs credits calls frames → Trace
trace_of_run {c = c} {calls = calls} r = trace_of r.before c r.first calls r.steps

-- Function n runs on the values that the input encodes, whose cells and those of the header's credits the store has the
-- words for.
pub record InputRun (c : PlainCode) (n : ℕ) (input : List ℕ) (room : Room) : Type 0 where
  pub function : PlainFunction
  pub there : function_at c n ≡ Some function
  pub values : Values
  pub spelt : SpellsValues c.types (types_of function.params) input values
  pub fits : words_for values function.credits ≤ room.words
  pub held : Option Stack
  pub stack : HasStack c n held
  pub run : LoadedRun c n values function.credits room.calls (frames_of room.frames held)
