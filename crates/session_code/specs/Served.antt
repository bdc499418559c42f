-- What a session requires of the code that it runs: that it is a program's.
--
-- With `fip fun rev(xs: ints, acc: ints): ints` the program has an instance that is called rev; the code has one
-- function of this name, with the parameters, results and credits of that instance. Where this begins on Cons(1, Nil)
-- and Nil, while a name holds another list, its run is over after some steps, with a word that stands for Cons(1, Nil).
use Rattle.std.specs.Prelude.{◌≡◌, ℕ, ◌<◌, List, length, Some, slice_get}
use Rattle.session_correctness.specs.tree_refinement.cell_code.declared.code.Code.{Code}
use Rattle.session_correctness.specs.tree_refinement.cell_code.declared.code.Function.{Function}
use Rattle.session_correctness.specs.tree_refinement.fip_language.Core.{Name}
use Rattle.session_correctness.specs.tree_refinement.fip_language.Meaning.{Answer}
use Rattle.session_correctness.specs.tree_refinement.fip_language.Values.{Values}
use Rattle.session_lines.specs.Named.{HasName, HasFrames}
use Rattle.session_lines.specs.instance_semantics.fip_trees.Tree.{Instance}
use Rattle.session_lines.specs.session_semantics.Talk.{Setting, answer_of, free_frames}
use Rattle.session_lines.specs.session_semantics.Typed.{IsEntry}
use Rattle.session_values.specs.Readable.{IsReadable}
use Rattle.session_correctness.specs.Beside.{BeginsBeside}
use Rattle.session_correctness.specs.tree_refinement.Runs.{IsSameEnd}
use Rattle.session_correctness.specs.tree_refinement.code_rules.Breaks.{IsSound}
use Rattle.session_correctness.specs.tree_refinement.cell_code.Plain.{PlainCode, plain_function, plain, results}
use Rattle.session_correctness.specs.tree_refinement.machine_semantics.Runs.{End, Ends}
use Rattle.session_correctness.specs.tree_refinement.machine_semantics.States.{State}
use Rattle.session_correctness.specs.tree_refinement.machine_semantics.Steps.{Kinds}
use Rattle.session_correctness.specs.tree_refinement.separation.Codes.{HasLiterals, AreKinds}

-- The run of function n from this state, with so many calls, is over after enough steps, as this answer says: with words
-- that stand for its values and with the calls that it leaves, in the same trap, or out of calls or frames.
pub record ComesTo (c : PlainCode) (before : Kinds) (n : ℕ) (s : State) (calls : ℕ) (a : Answer) : Type 0 where
  pub end : End
  pub last : State
  pub left : ℕ
  pub steps : ℕ
  pub ends : Ends before c s calls end last left steps
  pub same : IsSameEnd c.types (results c n) last left end a

-- Function f, which is number n of the code, runs as instance i means: a session gives it the frames of the instance,
-- and with these, wherever it begins on values beside cells that are kept, it ends in what the instance means by them.
pub record RunsAs (o : Setting) (code : Code) (n : ℕ) (f : Function) (i : ℕ) : Type 0 where
  pub has : (frames : ℕ) → HasFrames (plain code) n o.frames frames → frames ≡ free_frames o i
  pub comes : (before waits : Kinds) (vs : Values) (kept : List ℕ) (s : State) → AreKinds (plain code) before waits →
      BeginsBeside code n (plain_function f) vs (free_frames o i) kept s →
      ComesTo (plain code) before n s o.calls (answer_of o i vs)

-- Function f, which is number n of the code, is that of instance i of the program, whose header is d.
pub record IsOf (o : Setting) (code : Code) (n : ℕ) (f : Function) (i : ℕ) (d : Instance) : Type 0 where
  pub there : slice_get code.functions.items n ≡ Some f
  pub called : IsEntry o.program f.name i d
  pub some : 0 < length f.name
  pub params : f.params ≡ d.params
  pub results : f.results ≡ d.results
  pub credits : f.credits.items ≡ d.credits
  pub runs : RunsAs o code n f i

-- The code is that of the program: it is sound, each of its functions that has a name is that of an instance which is
-- called so, and for each instance that is called it has a function of this name.
pub record IsServed (o : Setting) (code : Code) : Type 0 where
  pub types : code.types ≡ o.program.types
  pub readable : IsReadable code
  pub entry : (n : ℕ) (f : Function) → slice_get code.functions.items n ≡ Some f → 0 < length f.name →
      (i : ℕ) × (d : Instance) × IsOf o code n f i d
  pub function : (name : Name) (i : ℕ) (d : Instance) → 0 < length name → IsEntry o.program name i d →
      (n : ℕ) × HasName code.functions.items name n
  pub sound : IsSound (plain code)
  pub literals : HasLiterals (plain code)
