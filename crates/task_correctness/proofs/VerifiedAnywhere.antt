-- Calls that lie apart at any places are started there, and answer as on trees.
use Rattle.std.proofs.Common.{◌≡◌, ◌≤◌, ℕ, suc, List, [], ◌∷◌, Some, refl, sym, ap, subst, ◌∙◌, length, map, length-append, arith}
use Rattle.std.proofs.lemmas.List.{length-map}
use Rattle.std.specs.Prelude.{slice_get}
use Rattle.fip_tasks.specs.fip_base.declared.plain.Param.{Param}
use Rattle.fip_tasks.specs.fip_language.Store.{Parts, NoParts, MoreParts, words_of}
use Rattle.fip_tasks.specs.fip_language.Table.{Table}
use Rattle.fip_tasks.specs.cell_code.Plain.{PlainFunction, PlainCode, plain}
use Rattle.machine_correctness.specs.machine_semantics.Cells.{Store}
use Rattle.machine_correctness.specs.machine_semantics.Runs.{Run, Over, loaded, begun}
use Rattle.machine_correctness.specs.machine_semantics.Steps.{Kinds}
use Rattle.machine_correctness.specs.machine_semantics.Trees.{StandAll}
use Rattle.machine_correctness.specs.machine_semantics.Words.{place_word}
use Rattle.machine_correctness.specs.code_rules.Breaks.{IsSound}
use Rattle.fip_tasks.specs.code_verify.Checked.{Checked}
use Rattle.machine_correctness.specs.separation.Codes.{HasLiterals, AreKinds}
use Rattle.machine_correctness.proofs.separation.Sound.{formed, has_form}
use Rattle.fip_tasks.specs.fip_machine.declared.machine.Ended.{Ended}
use Rattle.fip_tasks.specs.task_semantics.Projected.{Begun}
use Rattle.fip_tasks.specs.task_semantics.Schedules.{Shared, scheduled}
use Rattle.fip_tasks.specs.task_semantics.Ended.{EndsOnTrees}
use Rattle.fip_tasks.specs.task_semantics.Lying.{Lying, LiesIn, IsBegun, AreApart, call_words}
use Rattle.fip_tasks.proofs.task_semantics.Beginning.{lies_at, spare_long}
use Rattle.fip_tasks.proofs.task_semantics.Ending.{ends_on_trees}
use Rattle.fip_tasks.specs.Shown.{IsStarted, AreStarted, Shows}
use Rattle.fip_tasks.specs.Turns.{Standing, Turns}
use Rattle.fip_tasks.specs.declared.task.Start.{Start}
use Rattle.fip_tasks.proofs.Lists.{there}
use Rattle.task_correctness.specs.Answered.{IsStartAt, AreStartsAt, HasAnswered}
use Rattle.task_correctness.proofs.Answers.{over}
use Rattle.task_correctness.proofs.Started.{function_of}

trees_long : (tb : Table) (s : Store) (ts : List ℕ) (xs : Parts) → StandAll tb s ts xs → length (words_of xs) ≡ length ts
trees_long tb s [] NoParts h = refl
trees_long tb s [] (MoreParts x xs) h = absurd h
trees_long tb s (t ∷ ts) NoParts h = absurd h
trees_long tb s (t ∷ ts) (MoreParts x xs) h = ap suc (trees_long tb s ts xs h.1)

words_fit : (c : PlainCode) (s : Store) (l : Lying) → IsSound c → LiesIn c s l → length (call_words l) ≤ l.task.header.registers
words_fit c s l sound lies =
    let whole = length-append (words_of l.trees) (map (λ p. place_word p) l.spares) in
    let trees = trees_long c.types s (map (λ (p : Param). p.ty) l.task.header.params) l.trees lies.stand in
    let types = length-map l.task.header.params (λ (p : Param). p.ty) in
    let places = length-map l.spares (λ p. place_word p) in
    let spares = spare_long s l.task.header.credits l.spares lies.credits in
    let room = (has_form c l.task.header (formed c l.task.function l.task.header sound lies.there)).room in
    omega (arith, whole, trees, types, places, spares, room)

is_started : (v : Checked) (s : Store) (l : Lying) (b : Begun) (r : Run) (start : Start) → IsSound (plain v.code) → LiesIn (plain v.code) s l → IsBegun (plain v.code) s l b r → IsStartAt l start → IsStarted v s start r
is_started v s l b r start sound lies i is =
    let g = function_of v.code l.task.function l.task.header lies.there in
    let fits : length (call_words l) ≤ g.0.registers = subst (λ (f : PlainFunction). length (call_words l) ≤ f.registers) (sym g.2) (words_fit (plain v.code) s l sound lies) in
    let first : loaded (plain v.code) l.task.function s (call_words l) l.task.frames ≡ Some i.among = i.further in
    record {
      function = g.0;
      there = ap (slice_get v.code.functions.items) is.entry ∙ g.1;
      fits = subst (λ (ws : List ℕ). length ws ≤ g.0.registers) (sym is.words) fits;
      first = i.among;
      loaded = (λ j. loaded (plain v.code) (is.entry j) s (is.words j) (is.frames j)) ∙ first;
      run = i.run ∙ ap (begun i.among) (sym is.calls);
    }

pub apart_started : (v : Checked) (ls : List Lying) (alone : List Begun) (first : Shared) (starts : List Start) → IsSound (plain v.code) → AreApart (plain v.code) ls alone first → AreStartsAt ls starts → AreStarted v first.store starts first
apart_started v ls alone first starts sound h is = record {
  store = refl;
  number = h.number ∙ sym is.number;
  runs = λ k start r e f.
      let l = there starts ls k start is.number e in
      let b = there ls alone k l.0 (sym h.number_alone) l.1 in
      is_started v first.store l.0 b.0 r start sound (lies_at (plain v.code) first.store ls k l.0 h.apart.calls l.1) (h.begun k l.0 b.0 r l.1 b.1 f) (is.each k l.0 start l.1 e);
}

pub apart_answers : (v : Checked) (before waits : Kinds) (ls : List Lying) (alone : List Begun) (first : Shared) (schedule : List ℕ) (turns : Turns) (k : ℕ) (l : Lying) (a : Standing) (x : Ended) → IsSound (plain v.code) → HasLiterals (plain v.code) → AreKinds (plain v.code) before waits → AreApart (plain v.code) ls alone first → Shows v turns (scheduled before (plain v.code) schedule first) → slice_get ls k ≡ Some l → slice_get turns.tasks k ≡ Some a → a.ended ≡ Some x → HasAnswered (plain v.code) l.task turns.store a
apart_answers v before waits ls alone first schedule turns k l a x sound literals kinds h shows task at e =
    let now : Shared = scheduled before (plain v.code) schedule first in
    let written : Shared = scheduled before (plain v.code) schedule first in
    let run = there turns.tasks now.runs k a shows.number at in
    let o = over v a run.0 x (shows.tasks k a run.0 at run.1) e in
    let on : slice_get written.runs k ≡ Some (Over o.end o.last o.left o.steps) = run.1 ∙ ap (λ (m : Run). Some m) o.is in
    let trees : EndsOnTrees (plain v.code) l.task (record o.last { store = written.store }) o.end o.left o.steps = ends_on_trees (plain v.code) before waits ls alone first schedule k l o.end o.last o.left o.steps sound literals kinds h task on in
    let store : written.store ≡ turns.store = sym shows.store in
    record {
      end = o.end;
      last = o.last;
      left = o.left;
      steps = o.steps;
      ended = o.ended;
      trees = subst (λ (s : Store). EndsOnTrees (plain v.code) l.task (record o.last { store = s }) o.end o.left o.steps) store trees;
    }
