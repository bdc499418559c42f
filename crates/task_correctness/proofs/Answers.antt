-- A task that has an end is where a run is that is over, and so ended as on trees.
use Rattle.std.proofs.Common.{◌≡◌, ℕ, List, Some, refl, sym, ap, subst, ◌∙◌}
use Rattle.std.specs.Prelude.{slice_get}
use Rattle.fip_tasks.specs.cell_code.Plain.{plain}
use Rattle.machine_correctness.specs.machine_semantics.Cells.{Store}
use Rattle.machine_correctness.specs.machine_semantics.States.{State}
use Rattle.machine_correctness.specs.machine_semantics.Steps.{Kinds}
use Rattle.machine_correctness.specs.machine_semantics.Runs.{End, Run, Going, Over}
use Rattle.machine_correctness.specs.code_rules.Breaks.{IsSound}
use Rattle.fip_tasks.specs.code_verify.Checked.{Checked}
use Rattle.machine_correctness.specs.separation.Codes.{HasLiterals, AreKinds}
use Rattle.fip_tasks.specs.fip_machine.declared.machine.Ended.{Ended}
use Rattle.fip_tasks.specs.task_semantics.Projected.{Begun}
use Rattle.fip_tasks.specs.task_semantics.Schedules.{Shared, scheduled}
use Rattle.fip_tasks.specs.task_semantics.Ended.{EndsOnTrees}
use Rattle.fip_tasks.specs.task_semantics.Laid.{Task, AreLaid}
use Rattle.fip_tasks.proofs.task_semantics.Ends.{ends_on_trees}
use Rattle.fip_tasks.specs.Shown.{HasEnded, StandsAt, Shows}
use Rattle.fip_tasks.specs.Turns.{Standing, Turns}
use Rattle.fip_tasks.proofs.Lists.{there}
use Rattle.task_correctness.specs.Answered.{HasAnswered}

-- the run of a task that has an end is over
pub record IsOver (a : Standing) (r : Run) : Type 0 where
  pub end : End
  pub last : State
  pub left : ℕ
  pub steps : ℕ
  pub is : r ≡ Over end last left steps
  pub ended : HasEnded a end

pub over : (v : Checked) (a : Standing) (r : Run) (x : Ended) → StandsAt v a r → a.ended ≡ Some x → IsOver a r
over v a (Going s l n) x h e = let f = h.on in absurd cc
over v a (Over end s l n) x h e = record { end = end; last = s; left = l; steps = n; is = refl; ended = h }

pub answers : (v : Checked) (before waits : Kinds) (tasks : List Task) (alone : List Begun) (first : Shared) (schedule : List ℕ) (turns : Turns) (k : ℕ) (t : Task) (a : Standing) (x : Ended) → IsSound (plain v.code) → HasLiterals (plain v.code) → AreKinds (plain v.code) before waits → AreLaid (plain v.code) tasks alone first → Shows v turns (scheduled before (plain v.code) schedule first) → slice_get tasks k ≡ Some t → slice_get turns.tasks k ≡ Some a → a.ended ≡ Some x → HasAnswered (plain v.code) t turns.store a
answers v before waits tasks alone first schedule turns k t a x sound literals kinds laid shows task at e =
    let now : Shared = scheduled before (plain v.code) schedule first in
    let written : Shared = scheduled before (plain v.code) schedule first in
    let run = there turns.tasks now.runs k a shows.number at in
    let o = over v a run.0 x (shows.tasks k a run.0 at run.1) e in
    let on : slice_get written.runs k ≡ Some (Over o.end o.last o.left o.steps) = run.1 ∙ ap (λ (m : Run). Some m) o.is in
    let trees : EndsOnTrees (plain v.code) t (record o.last { store = written.store }) o.end o.left o.steps = ends_on_trees (plain v.code) before waits tasks alone first schedule k t o.end o.last o.left o.steps sound literals kinds laid task on in
    let store : written.store ≡ turns.store = sym shows.store in
    record {
      end = o.end;
      last = o.last;
      left = o.left;
      steps = o.steps;
      ended = o.ended;
      trees = subst (λ (s : Store). EndsOnTrees (plain v.code) t (record o.last { store = s }) o.end o.left o.steps) store trees;
    }
