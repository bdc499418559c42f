-- A task ends as alone, and alone as the source means.
use Rattle.std.proofs.Common.{◌≡◌, ◌<◌, ℕ, List, [], Some, length, slice_get, ap, subst}
use Rattle.fip_tasks.specs.fip_language.Core.{Core}
use Rattle.fip_tasks.specs.fip_language.Meaning.{Answer, meaning}
use Rattle.fip_tasks.specs.fip_language.Statics.{NoClosed}
use Rattle.fip_tasks.specs.fip_language.Table.{Table}
use Rattle.fip_tasks.specs.cell_code.declared.code.Code.{Code}
use Rattle.machine_correctness.specs.machine_semantics.Cells.{Store}
use Rattle.fip_tasks.specs.cell_code.Plain.{PlainCode, plain, results_of, results}
use Rattle.machine_correctness.specs.machine_semantics.Runs.{End, Run, Over, loaded}
use Rattle.machine_correctness.specs.machine_semantics.States.{State}
use Rattle.machine_correctness.specs.machine_semantics.Steps.{Kinds}
use Rattle.machine_correctness.specs.separation.Codes.{AreKinds}
use Rattle.machine_correctness.proofs.separation_bounds.Ending.{ends_once}
use Rattle.machine_correctness.specs.tree_refinement.Runs.{IsSameEnd}
use Rattle.machine_correctness.specs.run_loading.Loading.{first_store, first_words}
use Rattle.fip_tasks.specs.task_semantics.Projected.{Begun}
use Rattle.fip_tasks.specs.task_semantics.Schedules.{Shared, scheduled}
use Rattle.fip_tasks.specs.task_semantics.Ended.{EndsAlone}
use Rattle.fip_tasks.specs.task_semantics.Laid.{Task, shared_store, IsBegun, AreLaid}
use Rattle.fip_tasks.proofs.task_semantics.Ends.{ends_alone, task_of, own_ends, same_answer}
use Rattle.machine_correctness.specs.Starts.{IsCodeOf}
use Rattle.machine_correctness.proofs.EvaluatedEnds.{ends_as_meant}
use Rattle.machine_correctness.proofs.Starting.{loaded_begins, starts}

pub same_end : (tb : Table) (types : List ℕ) (end other : End) (l m : State) (left k steps j : ℕ) (a : Answer) → Over end l left steps ≡ Over other m k j → IsSameEnd tb types l left end a → IsSameEnd tb types m k other a
same_end tb types end other l m left k steps j a is h =
    let ends : end ≡ other = cc in
    let lasts : l ≡ m = cc in
    let lefts : left ≡ k = cc in
    subst (λ k. IsSameEnd tb types m k other a) lefts (subst (λ (u : State). IsSameEnd tb types u left other a) lasts (subst (λ x. IsSameEnd tb types l left x a) ends h))

meant : (source : List ℕ) (core : Core) (code : Code) (before waits : Kinds) (shared : Store) (n : ℕ) (t : Task) (b : Begun) (r : Run) (e : End) (last : State) (left steps : ℕ) → IsCodeOf source core code → AreKinds (plain code) before waits → IsBegun (plain code) shared n t b r → 0 < length t.header.name → EndsAlone (plain code) before b last.store e left steps → IsSameEnd code.types t.header.results last left e (meaning core t.header.name NoClosed t.arguments t.calls t.frames).answer
meant source core code before waits shared n t b r e last left steps h kinds i some ended =
    let c : PlainCode = plain code in
    let a : Answer = (meaning core t.header.name NoClosed t.arguments t.calls t.frames).answer in
    let reads : loaded (plain code) t.function (first_store t.arguments t.header.credits) (first_words t.arguments t.header.credits) t.frames ≡ Some i.own =
    i.first in
    let begins = loaded_begins code t.function t.header t.arguments t.frames i.own h.is_sound i.task.there i.task.typed reads in
    let start = (starts code before waits t.function t.header t.arguments t.frames i.own h.is_sound kinds begins).0 in
    let ends = ends_as_meant source core code before waits t.function t.header t.arguments t.frames i.own t.calls h kinds begins some in
    let o = own_ends c before shared last.store n t b r e left steps i ended in
    let once = ends_once c before waits before waits t.function [] i.own t.calls ends.end o.end ends.last o.last ends.left left ends.steps steps start kinds ends.ends o.ends in
    let own : IsSameEnd c.types (results c t.function) o.last left o.end a = same_end c.types (results c t.function) ends.end o.end ends.last o.last ends.left left ends.steps steps a once ends.same in
    subst (λ ts. IsSameEnd code.types ts last left e a) (ap results_of i.task.there) (same_answer c before t i.own b.places last e left steps a o own)

pub tasks_meant : (source : List ℕ) (core : Core) (code : Code) (before waits : Kinds) (tasks : List Task) (alone : List Begun) (first : Shared) (schedule : List ℕ) (k : ℕ) (t : Task) (e : End) (last : State) (left steps : ℕ) → IsCodeOf source core code → AreKinds (plain code) before waits → AreLaid (plain code) tasks alone first → slice_get tasks k ≡ Some t → 0 < length t.header.name → slice_get (scheduled before (plain code) schedule first).runs k ≡ Some (Over e last left steps) → IsSameEnd code.types t.header.results (record last { store = (scheduled before (plain code) schedule first).store }) left e (meaning core t.header.name NoClosed t.arguments t.calls t.frames).answer
tasks_meant source core code before waits tasks alone first schedule k t e last left steps h kinds laid is some over =
    let c : PlainCode = plain code in
    let x = task_of c (shared_store tasks) 0 k tasks alone first.runs t laid.begun is in
    let ended = ends_alone c before waits tasks alone first schedule k x.begun e last left steps h.is_sound.sound h.is_sound.literals kinds laid x.is over in
    meant source core code before waits (shared_store tasks) x.number t x.begun x.run e (record last { store = (scheduled before c schedule first).store }) left steps h kinds x.begins some ended
