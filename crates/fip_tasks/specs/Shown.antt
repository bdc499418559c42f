-- Tasks against the schedule that is written: each task stands where its run does, and the store is the schedule's.
--
-- Two tasks of the reversal of a list took the turns 0, 1 and 0. Then the first stands at its third instruction and the
-- second at its second, as the runs of the two do after this schedule; neither has ended.
use Rattle.std.specs.Prelude.{◌≡◌, ◌≢◌, ℕ, ◌≤◌, List, [], Option, Some, None, length, replicate, slice_get}
use Rattle.fip_machine.specs.cell_code.declared.code.Function.{Function}
use Rattle.fip_machine.specs.cell_code.Plain.{plain}
use Rattle.task_semantics.specs.machine_semantics.Cells.{Store}
use Rattle.task_semantics.specs.machine_semantics.States.{State, Stuck}
use Rattle.task_semantics.specs.machine_semantics.Steps.{Kinds, next}
use Rattle.task_semantics.specs.machine_semantics.Runs.{End, Value, Trap, Out, Deep, Unsound, Run, Going, Over, begun, loaded}
use Rattle.code_verify.specs.Checked.{Checked}
use Rattle.fip_machine.specs.machine_cells.Small.{IsSmall}
use Rattle.fip_machine.specs.machine_step.Coming.{KnowsAt}
use Rattle.fip_machine.specs.declared.machine.Ended.{Ended}
use Rattle.fip_machine.specs.declared.machine.Ended.TheVariants as M
use Rattle.fip_machine.specs.Tasks.{state_with}
use Rattle.task_semantics.specs.Schedules.{Shared, scheduled, in_store}
use Rattle.fip_tasks.specs.declared.task.Start.{Start}
use Rattle.fip_tasks.specs.declared.task.Turned.{Turned}
use Rattle.fip_tasks.specs.declared.task.Turned.TheVariants as T
use Rattle.fip_tasks.specs.Turns.{Standing, Turns}

-- The task goes on, in this state of a run of the code, with so many calls left. The cells aren't looked at.
pub record IsAt (v : Checked) (t : Standing) (s : State) (calls : ℕ) : Type 0 where
  pub code : t.stack.code ≡ v
  pub state : state_with t.stack s.lent s.store ≡ s
  pub going : t.stack.ended ≡ None
  pub on : t.ended ≡ None
  pub left : t.left ≡ calls

-- The task ended so; after a value it has the words of the results.
abbrev pub HasEnded : Standing → End → Type 0
HasEnded t (Value ws) = (t.ended ≡ Some M.Value) × (t.stack.given ≡ ws)
HasEnded t (Trap kind line col) = t.ended ≡ Some (M.Trap kind line col)
HasEnded t Out = t.ended ≡ Some M.Out
HasEnded t Deep = t.ended ≡ Some M.Deep
HasEnded t Unsound = ⊥

-- The task stands where the run does.
abbrev pub StandsAt : Checked → Standing → Run → Type 0
StandsAt v t (Going s left steps) = IsAt v t s left
StandsAt v t (Over e s left steps) = HasEnded t e

-- Tasks of this code stand where the runs do, over the same cells.
pub record Shows (v : Checked) (t : Turns) (shared : Shared) : Type 0 where
  pub store : t.store ≡ shared.store
  pub small : IsSmall t.store.cells
  pub empty : t.pushed ≡ []
  pub number : length t.tasks ≡ length shared.runs
  pub tasks : (k : ℕ) (a : Standing) (r : Run) → slice_get t.tasks k ≡ Some a → slice_get shared.runs k ≡ Some r →
      StandsAt v a r

-- ---- what is asked of a turn

-- A run that goes on can: what its Drop releases by the kinds is what the verifier knows, and its instruction can be
-- done. Of sound code, loaded, this is always so.
abbrev pub CanGo : Checked → Kinds → Run → Type 0
CanGo v kinds (Going s left steps) = KnowsAt v kinds s.running.function s.running.at
    × (next kinds (plain v.code) s ≢ Stuck)
CanGo v kinds (Over e s left steps) = Unit {0}

abbrev pub CanTurn : Checked → Kinds → Shared → ℕ → Type 0
CanTurn v kinds shared k = (r : Run) → slice_get shared.runs k ≡ Some r → CanGo v kinds (in_store shared.store r)

-- It can at each of its turns, if only it has turns.
abbrev pub CanFinish : Checked → Kinds → Shared → ℕ → Type 0
CanFinish v kinds shared k =
    (n : ℕ) → CanTurn v kinds (scheduled kinds (plain v.code) (replicate n k) shared) k

-- ---- what is reported

-- what a turn came to, by how the task has ended then
abbrev pub turned_by : Option Ended → Turned
turned_by None = T.Went
turned_by (Some M.Value) = T.Value
turned_by (Some (M.Trap kind line col)) = T.Trap kind line col
turned_by (Some M.Out) = T.Out
turned_by (Some M.Deep) = T.Deep

-- ---- where tasks begin

-- The run begins where the function of the start is loaded over these cells, with its words, calls and frames.
pub record IsStarted (v : Checked) (cells : Store) (start : Start) (r : Run) : Type 0 where
  pub function : Function
  pub there : slice_get v.code.functions.items start.entry ≡ Some function
  pub fits : length start.words ≤ function.registers
  pub first : State
  pub loaded : loaded (plain v.code) start.entry cells start.words start.frames ≡ Some first
  pub run : r ≡ begun first start.calls

-- So each task does, in its order.
pub record AreStarted (v : Checked) (cells : Store) (starts : List Start) (shared : Shared) : Type 0 where
  pub store : shared.store ≡ cells
  pub number : length shared.runs ≡ length starts
  pub runs : (k : ℕ) (b : Start) (r : Run) → slice_get starts k ≡ Some b → slice_get shared.runs k ≡ Some r →
      IsStarted v cells b r
