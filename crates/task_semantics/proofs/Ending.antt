-- A task that lies apart from others ends as alone, and alone as its function ends on trees.
use Rattle.std.proofs.Common.{◌≡◌, ℕ, ◌+◌, ◌≤◌, List, [], Some, refl, sym, ap, ap₂, ◌∙◌, subst}
use Rattle.std.specs.Prelude.{slice_get}
use Rattle.run_loading.specs.fip_language.Store.{count, values_of}
use Rattle.run_loading.specs.machine_semantics.Cells.{Store, IsStore, there, released_at}
use Rattle.run_loading.specs.machine_semantics.Runs.{End, Run, Going, Over, begun, after}
use Rattle.run_loading.specs.machine_semantics.States.{State}
use Rattle.run_loading.specs.machine_semantics.Steps.{Kinds}
use Rattle.run_loading.specs.code_rules.Breaks.{IsSound}
use Rattle.run_loading.specs.cell_code.Plain.{PlainCode}
use Rattle.run_loading.specs.separation.Codes.{HasLiterals, AreKinds}
use Rattle.run_loading.specs.separation.Starts.{IsStart}
use Rattle.run_loading.proofs.separation.Loading.{loaded_is}
use Rattle.task_semantics.specs.Projected.{Begun, IsSameRun}
use Rattle.task_semantics.specs.Schedules.{Shared, scheduled, in_store}
use Rattle.task_semantics.proofs.Scheduling.{each_is_alone}
use Rattle.run_loading.specs.tree_refinement.Runs.{BeginsWith}
use Rattle.run_loading.proofs.tree_refinement.Loading.{begins_with, begins_values}
use Rattle.run_loading.proofs.tree_refinement.Running.{trees_end}
use Rattle.run_loading.specs.tree_semantics.Runs as T
use Rattle.task_semantics.specs.Ended.{EndsOnTrees}
use Rattle.task_semantics.specs.Laid.{Task}
use Rattle.task_semantics.proofs.Ends.{OwnEnds, same_answer}
use Rattle.task_semantics.specs.Lying.{Lying, LiesIn, uses_by, AreApart, call_words, own_store}
use Rattle.task_semantics.proofs.Beginning.{lies_at, once_by, state_over, start_over, are_loaded, begin_together, some_at}

-- how it ended from its own state
own_ended : (before waits : Kinds) (c : PlainCode) (t : Task) (own : State) (f : ℕ → ℕ) (shared : Store) (m : ℕ) (e : End) (last : State) (left steps : ℕ) (r : Run) → after before c m (begun own t.calls) ≡ r → IsSameRun before waits c t.function f r (in_store shared (Over e last left steps)) → OwnEnds c before t own f shared e left steps
own_ended before waits c t own f shared m e last left steps (Going s l k) z i = absurd i
own_ended before waits c t own f shared m e last left steps (Over d s l k) z i = record {
  end = d;
  last = s;
  ends = record { enough = m; is = z ∙ ap₂ (λ l k. Over d s l k) i.2 i.3 };
  same = i.0;
}

-- it begins with its arguments
begins : (c : PlainCode) (before waits : Kinds) (s : Store) (l : Lying) → IsSound c → HasLiterals c → AreKinds c before waits → IsStore s → LiesIn c s l → ((p : ℕ) → uses_by l p + released_at s p ≤ there s p) → IsStart c before waits l.task.function [] (state_over c (own_store s l) l) × BeginsWith c l.task.function (state_over c (own_store s l) l) l.task.arguments
begins c before waits s l sound literals kinds store lies once =
    let own : State = state_over c (own_store s l) l in
    let t = start_over c before waits s l sound literals kinds store lies once in
    let some = begins_with c before waits l.task.function [] own t in
    let same : values_of l.trees ≡ some.0 = begins_values c before waits l.task.function [] own t some.0 some.1 in
    (t, subst (λ vs. BeginsWith c l.task.function own vs) (sym same ∙ lies.values) some.1)

on_trees : (c : PlainCode) (before waits : Kinds) (s : Store) (l : Lying) (own : State) (e : End) (last : State) (left steps : ℕ) → IsSound c → HasLiterals c → AreKinds c before waits → IsStore s → LiesIn c s l → ((p : ℕ) → uses_by l p + released_at s p ≤ there s p) → own ≡ state_over c (own_store s l) l → OwnEnds c before l.task own (λ p. p) last.store e left steps → EndsOnTrees c l.task last e left steps
on_trees c before waits s l own e last left steps sound literals kinds store lies once is o =
    let t = l.task in
    let over = begins c before waits s l sound literals kinds store lies once in
    let start = subst (λ (u : State). IsStart c before waits t.function [] u) (sym is) over.0 in
    let with_arguments = subst (λ (u : State). BeginsWith c t.function u t.arguments) (sym is) over.1 in
    let free : own.free ≡ t.frames = ap (λ (u : State). u.free) is in
    let x = trees_end c before waits t.function [] own t.arguments t.calls o.end o.last left steps start with_arguments o.ends in
    record {
      enough = (o.ends).enough;
      answer = x.0;
      state = x.1;
      is = subst (λ m. T.after c (o.ends).enough (T.begun (T.entry t.function t.arguments m) t.calls) ≡ T.Over x.0 x.1 left steps) free x.2;
      same = same_answer c before t own (λ p. p) last e left steps x.0 o x.3;
    }

-- how a task ended from its own state, where it ended among others
pub own_end : (c : PlainCode) (before waits : Kinds) (ls : List Lying) (alone : List Begun) (first : Shared) (schedule : List ℕ) (k : ℕ) (l : Lying) (e : End) (last : State) (left steps : ℕ) → IsSound c → HasLiterals c → AreKinds c before waits → AreApart c ls alone first → slice_get ls k ≡ Some l → slice_get (scheduled before c schedule first).runs k ≡ Some (Over e last left steps) → OwnEnds c before l.task (state_over c (own_store first.store l) l) (λ p. p) (scheduled before c schedule first).store e left steps
own_end c before waits ls alone first schedule k l e last left steps sound literals kinds h is over =
    let now : Store = (scheduled before c schedule first).store in
    let b = some_at ls alone k l (sym h.number_alone) is in
    let r = some_at ls first.runs k l (sym h.number) is in
    let i = h.begun k l b.0 r.0 is b.1 r.1 in
    let lies = lies_at c first.store ls k l h.apart.calls is in
    let own : i.own ≡ state_over c (own_store first.store l) l = loaded_is c l.task.function l.task.header (own_store first.store l) (call_words l) l.task.frames i.own lies.there i.first in
    let same = each_is_alone before waits c alone first (are_loaded c before waits ls alone first sound literals kinds h) (begin_together c before waits ls alone first sound literals kinds h) schedule k b.0 (Over e last left steps) b.1 over in
    let mine : IsSameRun before waits c l.task.function (λ p. p) (after before c (count k schedule) (begun i.own l.task.calls)) (in_store now (Over e last left steps)) =
    subst (λ (x : Begun). IsSameRun before waits c x.function x.places (after before c (count k schedule) (begun x.state x.calls)) (in_store now (Over e last left steps))) i.alone same in
    subst (λ (u : State). OwnEnds c before l.task u (λ p. p) now e left steps) own
    (own_ended before waits c l.task i.own (λ p. p) now (count k schedule) e last left steps (after before c (count k schedule) (begun i.own l.task.calls)) refl mine)

pub ends_on_trees : (c : PlainCode) (before waits : Kinds) (ls : List Lying) (alone : List Begun) (first : Shared) (schedule : List ℕ) (k : ℕ) (l : Lying) (e : End) (last : State) (left steps : ℕ) → IsSound c → HasLiterals c → AreKinds c before waits → AreApart c ls alone first → slice_get ls k ≡ Some l → slice_get (scheduled before c schedule first).runs k ≡ Some (Over e last left steps) → EndsOnTrees c l.task (record last { store = (scheduled before c schedule first).store }) e left steps
ends_on_trees c before waits ls alone first schedule k l e last left steps sound literals kinds h is over =
    let now : Store = (scheduled before c schedule first).store in
    on_trees c before waits first.store l (state_over c (own_store first.store l) l) e (record last { store = now }) left steps sound literals kinds h.apart.store (lies_at c first.store ls k l h.apart.calls is) (once_by c first.store ls k l h.apart is) refl
    (own_end c before waits ls alone first schedule k l e last left steps sound literals kinds h is over)
