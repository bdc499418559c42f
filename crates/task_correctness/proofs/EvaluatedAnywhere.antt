-- A task whose cells lie apart from those of the others ends as alone, and alone as the source means.
use Rattle.std.proofs.Common.{◌≡◌, ◌<◌, ℕ, List, [], Some, length, slice_get, sym, ap, ◌∙◌, subst}
use Rattle.fip_tasks.specs.fip_language.Core.{Core}
use Rattle.fip_tasks.specs.fip_language.Meaning.{Answer, meaning}
use Rattle.fip_tasks.specs.fip_language.Statics.{NoClosed}
use Rattle.machine_correctness.specs.machine_semantics.Cells.{Store}
use Rattle.fip_tasks.specs.cell_code.Plain.{PlainCode, plain, results_of, results}
use Rattle.machine_correctness.specs.machine_semantics.Runs.{End, Run, Over, loaded}
use Rattle.machine_correctness.specs.machine_semantics.States.{State}
use Rattle.machine_correctness.specs.machine_semantics.Steps.{Kinds}
use Rattle.fip_tasks.specs.code_verify.Checked.{Checked}
use Rattle.machine_correctness.specs.separation.Codes.{AreKinds}
use Rattle.machine_correctness.proofs.separation_bounds.Ending.{ends_once}
use Rattle.fip_tasks.specs.fip_machine.declared.machine.Ended.{Ended}
use Rattle.fip_tasks.specs.fip_machine.Tasks.{state_with}
use Rattle.machine_correctness.specs.tree_refinement.Runs.{IsSameEnd}
use Rattle.fip_tasks.specs.task_semantics.Projected.{Begun}
use Rattle.fip_tasks.specs.task_semantics.Schedules.{Shared, scheduled}
use Rattle.fip_tasks.proofs.task_semantics.Ends.{same_answer}
use Rattle.fip_tasks.specs.task_semantics.Lying.{Lying, AreApart, call_words, own_store}
use Rattle.fip_tasks.proofs.task_semantics.Owning.{own_given}
use Rattle.fip_tasks.proofs.task_semantics.Beginning.{lies_at, once_by, state_over, loads}
use Rattle.fip_tasks.proofs.task_semantics.Ending.{own_end}
use Rattle.fip_tasks.specs.Shown.{Shows}
use Rattle.fip_tasks.specs.Turns.{Standing, Turns}
use Rattle.fip_tasks.proofs.Lists.{there}
use Rattle.task_correctness.proofs.Answers.{over}
use Rattle.machine_correctness.specs.Meant.{IsMeant}
use Rattle.machine_correctness.specs.Starts.{IsCodeOf, Begins}
use Rattle.machine_correctness.proofs.EvaluatedEnds.{ends_as_meant}
use Rattle.machine_correctness.proofs.Starting.{starts}
use Rattle.task_correctness.proofs.Answered.{answered}
use Rattle.task_correctness.proofs.Meant.{same_end}

apart_meant : (source : List ℕ) (core : Core) (v : Checked) (before waits : Kinds) (ls : List Lying) (alone : List Begun) (first : Shared) (schedule : List ℕ) (k : ℕ) (l : Lying) (e : End) (last : State) (left steps : ℕ) → IsCodeOf source core v.code → AreKinds (plain v.code) before waits → AreApart (plain v.code) ls alone first → slice_get ls k ≡ Some l → 0 < length l.task.header.name → slice_get (scheduled before (plain v.code) schedule first).runs k ≡ Some (Over e last left steps) → IsSameEnd v.code.types l.task.header.results (record last { store = (scheduled before (plain v.code) schedule first).store }) left e (meaning core l.task.header.name NoClosed l.task.arguments l.task.calls l.task.frames).answer
apart_meant source core v before waits ls alone first schedule k l e last left steps h kinds apart is some on =
    let c : PlainCode = plain v.code in
    let t = l.task in
    let a : Answer = (meaning core t.header.name NoClosed t.arguments t.calls t.frames).answer in
    let now : Store = (scheduled before c schedule first).store in
    let own : State = state_over c (own_store first.store l) l in
    let lies = lies_at c first.store ls k l apart.apart.calls is in
    let once = once_by c first.store ls k l apart.apart is in
    let reads : loaded (plain v.code) t.function (own_store first.store l) (call_words l) t.frames ≡ Some own = loads c (own_store first.store l) l lies.there in
    let begins : Begins v.code t.function t.header t.arguments t.frames own = record {
      is = lies.there;
      words = call_words l;
      given = own_given c first.store l apart.apart.store lies once;
      values = lies.values;
      loaded = reads;
    } in
    let start = (starts v.code before waits t.function t.header t.arguments t.frames own h.is_sound kinds begins).0 in
    let ends = ends_as_meant source core v.code before waits t.function t.header t.arguments t.frames own t.calls h kinds begins some in
    let o = own_end c before waits ls alone first schedule k l e last left steps h.is_sound.sound h.is_sound.literals kinds apart is on in
    let same = ends_once c before waits before waits t.function [] own t.calls ends.end o.end ends.last o.last ends.left left ends.steps steps start kinds ends.ends o.ends in
    let mine : IsSameEnd c.types (results c t.function) o.last left o.end a = same_end c.types (results c t.function) ends.end o.end ends.last o.last ends.left left ends.steps steps a same ends.same in
    subst (λ ts. IsSameEnd v.code.types ts (record last { store = now }) left e a) (ap results_of lies.there) (same_answer c before t own (λ p. p) (record last { store = now }) e left steps a o mine)

pub apart_answers_meant : (source : List ℕ) (core : Core) (v : Checked) (before waits : Kinds) (ls : List Lying) (alone : List Begun) (first : Shared) (schedule : List ℕ) (turns : Turns) (k : ℕ) (l : Lying) (a : Standing) (e : Ended) → IsCodeOf source core v.code → AreKinds (plain v.code) before waits → AreApart (plain v.code) ls alone first → Shows v turns (scheduled before (plain v.code) schedule first) → slice_get ls k ≡ Some l → 0 < length l.task.header.name → slice_get turns.tasks k ≡ Some a → a.ended ≡ Some e → IsMeant v.code.types l.task.header.results e (state_with a.stack [] turns.store) a.stack.given (meaning core l.task.header.name NoClosed l.task.arguments l.task.calls l.task.frames).answer
apart_answers_meant source core v before waits ls alone first schedule turns k l a e code kinds apart shows task some at ended =
    let now : Shared = scheduled before (plain v.code) schedule first in
    let written : Shared = scheduled before (plain v.code) schedule first in
    let run = there turns.tasks now.runs k a shows.number at in
    let o = over v a run.0 e (shows.tasks k a run.0 at run.1) ended in
    let on : slice_get written.runs k ≡ Some (Over o.end o.last o.left o.steps) = run.1 ∙ ap (λ (m : Run). Some m) o.is in
    let answer : Answer = (meaning core l.task.header.name NoClosed l.task.arguments l.task.calls l.task.frames).answer in
    let meant : IsSameEnd v.code.types l.task.header.results (record o.last { store = written.store }) o.left o.end answer = apart_meant source core v before waits ls alone first schedule k l o.end o.last o.left o.steps code kinds apart task some on in
    let store : written.store ≡ turns.store = sym shows.store in
    answered v.code.types l.task.header.results a o.last turns.store o.end o.left e answer ended o.ended (subst (λ (s : Store). IsSameEnd v.code.types l.task.header.results (record o.last { store = s }) o.left o.end answer) store meant)
