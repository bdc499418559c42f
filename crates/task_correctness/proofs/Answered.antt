-- A task that has an end is where a run is that is over, and this ended as the source means.
use Rattle.std.proofs.Common.{◌≡◌, ◌<◌, ℕ, List, [], Some, length, slice_get, sym, ap, ◌∙◌, subst, refl}
use Rattle.fip_tasks.specs.fip_language.Core.{Core}
use Rattle.fip_tasks.specs.fip_language.Meaning.{Answer, Gives, Trap, Out, Deep, Stuck, meaning}
use Rattle.fip_tasks.specs.fip_language.Statics.{NoClosed}
use Rattle.fip_tasks.specs.fip_language.Table.{Table}
use Rattle.machine_correctness.specs.machine_semantics.Cells.{Store}
use Rattle.fip_tasks.specs.cell_code.Plain.{plain}
use Rattle.machine_correctness.specs.machine_semantics.Runs as C
use Rattle.machine_correctness.specs.machine_semantics.Runs.{Over}
use Rattle.machine_correctness.specs.machine_semantics.States.{State}
use Rattle.machine_correctness.specs.machine_semantics.Steps.{Kinds}
use Rattle.fip_tasks.specs.code_verify.Checked.{Checked}
use Rattle.machine_correctness.specs.separation.Codes.{AreKinds}
use Rattle.fip_tasks.specs.fip_machine.declared.machine.Ended.{Ended}
use Rattle.fip_tasks.specs.fip_machine.declared.machine.Ended.TheVariants as M
use Rattle.fip_tasks.specs.fip_machine.Tasks.{state_with}
use Rattle.machine_correctness.specs.tree_refinement.Agreement.{AreWordsOf}
use Rattle.machine_correctness.specs.tree_refinement.Runs.{IsSameEnd}
use Rattle.fip_tasks.specs.task_semantics.Projected.{Begun}
use Rattle.fip_tasks.specs.task_semantics.Schedules.{Shared, scheduled}
use Rattle.fip_tasks.specs.task_semantics.Laid.{Task, AreLaid}
use Rattle.fip_tasks.specs.Shown.{HasEnded, Shows}
use Rattle.fip_tasks.specs.Turns.{Standing, Turns}
use Rattle.fip_tasks.proofs.Lists.{there}
use Rattle.task_correctness.proofs.Answers.{over}
use Rattle.machine_correctness.specs.Meant.{IsMeant}
use Rattle.machine_correctness.specs.Starts.{IsCodeOf}
use Rattle.task_correctness.proofs.Meant.{tasks_meant}

same_ended : (e f : Ended) (a : Standing) → a.ended ≡ Some e → a.ended ≡ Some f → f ≡ e
same_ended e f a x y = cc

-- the end of the task, by that of the run
pub answered : (tb : Table) (types : List ℕ) (a : Standing) (last : State) (store : Store) (end : C.End) (left : ℕ) (e : Ended) (m : Answer) → a.ended ≡ Some e → HasEnded a end → IsSameEnd tb types (record last { store = store }) left end m → IsMeant tb types e (state_with a.stack [] store) a.stack.given m
answered tb types a last store (C.Value ws) left e (Gives vs l) is h same =
    let words : AreWordsOf tb store types a.stack.given vs = subst (λ us. AreWordsOf tb store types us vs) (sym h.1) same.0 in
    subst (λ x. IsMeant tb types x (state_with a.stack [] store) a.stack.given (Gives vs l)) (same_ended e M.Value a is h.0) words
answered tb types a last store (C.Value ws) left e (Trap l row at) is h same = absurd same
answered tb types a last store (C.Value ws) left e Out is h same = absurd same
answered tb types a last store (C.Value ws) left e Deep is h same = absurd same
answered tb types a last store (C.Value ws) left e Stuck is h same = absurd same
answered tb types a last store (C.Trap kind line col) left e (Gives vs l) is h same = absurd same
answered tb types a last store (C.Trap kind line col) left e (Trap l row at) is h same = subst (λ x. IsMeant tb types x (state_with a.stack [] store) a.stack.given (Trap l row at)) (same_ended e (M.Trap kind line col) a is h) same
answered tb types a last store (C.Trap kind line col) left e Out is h same = absurd same
answered tb types a last store (C.Trap kind line col) left e Deep is h same = absurd same
answered tb types a last store (C.Trap kind line col) left e Stuck is h same = absurd same
answered tb types a last store C.Out left e (Gives vs l) is h same = absurd same
answered tb types a last store C.Out left e (Trap l row at) is h same = absurd same
answered tb types a last store C.Out left e Out is h same = subst (λ x. IsMeant tb types x (state_with a.stack [] store) a.stack.given Out) (same_ended e M.Out a is h) refl
answered tb types a last store C.Out left e Deep is h same = absurd same
answered tb types a last store C.Out left e Stuck is h same = absurd same
answered tb types a last store C.Deep left e (Gives vs l) is h same = absurd same
answered tb types a last store C.Deep left e (Trap l row at) is h same = absurd same
answered tb types a last store C.Deep left e Out is h same = absurd same
answered tb types a last store C.Deep left e Deep is h same = subst (λ x. IsMeant tb types x (state_with a.stack [] store) a.stack.given Deep) (same_ended e M.Deep a is h) refl
answered tb types a last store C.Deep left e Stuck is h same = absurd same
answered tb types a last store C.Unsound left e m is h same = absurd h

pub answers_meant : (source : List ℕ) (core : Core) (v : Checked) (before waits : Kinds) (tasks : List Task) (alone : List Begun) (first : Shared) (schedule : List ℕ) (turns : Turns) (k : ℕ) (t : Task) (a : Standing) (e : Ended) → IsCodeOf source core v.code → AreKinds (plain v.code) before waits → AreLaid (plain v.code) tasks alone first → Shows v turns (scheduled before (plain v.code) schedule first) → slice_get tasks k ≡ Some t → 0 < length t.header.name → slice_get turns.tasks k ≡ Some a → a.ended ≡ Some e → IsMeant v.code.types t.header.results e (state_with a.stack [] turns.store) a.stack.given (meaning core t.header.name NoClosed t.arguments t.calls t.frames).answer
answers_meant source core v before waits tasks alone first schedule turns k t a e code kinds laid shows task some at ended =
    let now : Shared = scheduled before (plain v.code) schedule first in
    let written : Shared = scheduled before (plain v.code) schedule first in
    let run = there turns.tasks now.runs k a shows.number at in
    let o = over v a run.0 e (shows.tasks k a run.0 at run.1) ended in
    let on : slice_get written.runs k ≡ Some (Over o.end o.last o.left o.steps) = run.1 ∙ ap (λ (m : C.Run). Some m) o.is in
    let answer : Answer = (meaning core t.header.name NoClosed t.arguments t.calls t.frames).answer in
    let meant : IsSameEnd v.code.types t.header.results (record o.last { store = written.store }) o.left o.end answer = tasks_meant source core v.code before waits tasks alone first schedule k t o.end o.last o.left o.steps code kinds laid task some on in
    let store : written.store ≡ turns.store = sym shows.store in
    answered v.code.types t.header.results a o.last turns.store o.end o.left e answer ended o.ended (subst (λ (s : Store). IsSameEnd v.code.types t.header.results (record o.last { store = s }) o.left o.end answer) store meant)
