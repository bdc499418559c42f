-- Whatever the schedule is, each task is where it would be alone. By induction over the turns: after each of them every
-- task's run is that of the task alone, at its places.
use Rattle.std.proofs.Common.{◌≡◌, inl, inr, ℕ, zero, suc, ◌+◌, List, [], ◌∷◌, length, Option, Some, None, slice_get, slice_set, refl, sym, ap, ◌∙◌, subst, arith}
use Rattle.std.proofs.lemmas.Option.{none-some, same_Some}
use Rattle.run_loading.specs.fip_language.Store.{one_at, count}
use Rattle.run_loading.specs.cell_code.Plain.{PlainCode}
use Rattle.run_loading.specs.machine_semantics.Cells.{Store, IsStore, there}
use Rattle.run_loading.specs.machine_semantics.Steps.{Kinds}
use Rattle.run_loading.specs.machine_semantics.Runs.{Run, Going, Over, state_of, begun, later, after}
use Rattle.run_loading.proofs.separation_kinds.Basics.{get_within}
use Rattle.run_loading.proofs.separation_kinds.Agree.{one_here, one_apart}
use Rattle.run_loading.proofs.separation.Stores.{same_place}
use Rattle.run_loading.proofs.separation.ReadingRows.{get_some}
use Rattle.run_loading.specs.separation.Starts.{IsStart}
use Rattle.run_loading.proofs.separation.Running.{run_good, run_alive}
use Rattle.task_semantics.specs.Schedules.{Shared, in_store, settled, turned, turn, scheduled, alone}
use Rattle.task_semantics.specs.Projected.{Renaming, IsThere, IsSameRun, IsSameAt, Begun, AreApart, BeginTogether, AreLoaded, EachIsAlone, EachKeepsItsCells, IsSeenAs, EachIsSeenAsAlone}
use Rattle.task_semantics.proofs.SameCells.{there_like}
use Rattle.task_semantics.proofs.Seen.{held_are, frames_are, words_are}
use Rattle.task_semantics.proofs.RunsAlike.{RunGoes, later_alike, run_stays}

-- ---- runs and lists of runs

pub own_store : (r : Run) → in_store (state_of r).store r ≡ r
own_store (Going s left steps) = refl
own_store (Over e s left steps) = refl

stored : (s : Store) (r : Run) → (state_of (in_store s r)).store ≡ s
stored s (Going t left steps) = refl
stored s (Over e t left steps) = refl

after_later : (kinds : Kinds) (code : PlainCode) (n : ℕ) (r : Run) → after kinds code (suc n) r ≡ later kinds code (after kinds code n r)
after_later kinds code zero r = refl
after_later kinds code (suc n) r = after_later kinds code n (later kinds code r)

set_here : (rs : List Run) (k : ℕ) (r q : Run) → slice_get rs k ≡ Some r → slice_get (slice_set rs k q) k ≡ Some q
set_here [] k r q e = absurd (none-some r e)
set_here (x ∷ rs) zero r q e = refl
set_here (x ∷ rs) (suc k) r q e = set_here rs k r q e

set_other : (rs : List Run) (j k : ℕ) (q : Run) → (j ≡ k → ⊥) → slice_get (slice_set rs k q) j ≡ slice_get rs j
set_other [] j k q off = refl
set_other (x ∷ rs) zero zero q off = absurd (off refl)
set_other (x ∷ rs) zero (suc k) q off = refl
set_other (x ∷ rs) (suc j) zero q off = refl
set_other (x ∷ rs) (suc j) (suc k) q off = set_other rs j k q (λ e. off (ap suc e))

set_length : (rs : List Run) (k : ℕ) (q : Run) → length (slice_set rs k q) ≡ length rs
set_length [] k q = refl
set_length (x ∷ rs) zero q = refl
set_length (x ∷ rs) (suc k) q = ap suc (set_length rs k q)

-- ---- what holds after turns

-- a task alone, after so many steps
abbrev alone_after : Kinds → PlainCode → Begun → ℕ → Run
alone_after before c b n = after before c n (begun b.state b.calls)

record Holds (before waits : Kinds) (c : PlainCode) (tasks : List Begun) (counts : ℕ → ℕ) (t : Shared) : Type 0 where
  store : IsStore t.store
  number : length t.runs ≡ length tasks
  there : (k : ℕ) (b : Begun) → slice_get tasks k ≡ Some b → (p : ℕ) → there (state_of (alone_after before c b (counts k))).store p ≡ there b.state.store p
  same : (k : ℕ) (b : Begun) (r : Run) → slice_get tasks k ≡ Some b → slice_get t.runs k ≡ Some r → IsSameRun before waits c b.function b.places (alone_after before c b (counts k)) (in_store t.store r)

-- a turn of task k, whose run is r
record Turns (before waits : Kinds) (c : PlainCode) (tasks : List Begun) (counts : ℕ → ℕ) (t : Shared) (k : ℕ) (r : Run) : Type 0 where
  task : Begun
  is : slice_get tasks k ≡ Some task
  goes : RunGoes before waits c task.function task.places (alone_after before c task (counts k)) (in_store t.store r) (later before c (alone_after before c task (counts k))) (later before c (in_store t.store r))

turns : (before waits : Kinds) (c : PlainCode) (tasks : List Begun) (counts : ℕ → ℕ) (t : Shared) (k : ℕ) (r : Run) → AreLoaded before waits c tasks → Holds before waits c tasks counts t → slice_get t.runs k ≡ Some r → Turns before waits c tasks counts t k r
turns before waits c tasks counts t k r loaded h e =
    let within = get_within t.runs k r e in
    let number = h.number in
    let b = get_some tasks k (omega arith) in
    let start : IsStart c before waits b.0.function [] b.0.state = loaded k b.0 b.1 in
    let good : IsStore (state_of (in_store t.store r)).store = subst IsStore (sym (stored t.store r)) h.store in
    record {
      task = b.0;
      is = b.1;
      goes = later_alike before waits c b.0.function b.0.places [] (alone_after before c b.0 (counts k)) (in_store t.store r) start.sound start.literals start.kinds
          (run_good c before waits b.0.function [] b.0.state b.0.calls (counts k) start) good (h.same k b.0 r b.1 e);
    }

-- another task's cells are the same after it
others_same : (before waits : Kinds) (c : PlainCode) (tasks : List Begun) (counts : ℕ → ℕ) (t : Shared) (j k : ℕ) (r : Run) (b : Begun) → AreApart tasks → Holds before waits c tasks counts t → Turns before waits c tasks counts t k r → slice_get tasks j ≡ Some b → (j ≡ k → ⊥) → (p : ℕ) → IsThere b.state.store p → IsSameAt (state_of (later before c (in_store t.store r))).store t.store (b.places p)
others_same before waits c tasks counts t j k r b apart h g e off p here =
    subst (λ s. IsSameAt (state_of (later before c (in_store t.store r))).store s (b.places p)) (stored t.store r)
    (g.goes.beyond (b.places p) (λ q own z. apart k j q p g.task b g.is e (λ z. off (sym z)) (there_like g.task.state.store (state_of (alone_after before c g.task (counts k))).store q (h.there k g.task g.is q) own) here z))

-- one turn more
abbrev one_more : (ℕ → ℕ) → ℕ → ℕ → ℕ
one_more counts k j = counts j + one_at j k

counted : (counts : ℕ → ℕ) (j k : ℕ) → (j ≡ k → ⊥) → one_more counts k j ≡ counts j
counted counts j k off = let z : one_at j k ≡ 0 = one_apart j k off in omega arith

counted_here : (counts : ℕ → ℕ) (k : ℕ) → one_more counts k k ≡ suc (counts k)
counted_here counts k = let z : one_at k k ≡ 1 = one_here k k refl in omega arith

no_turn : (before waits : Kinds) (c : PlainCode) (tasks : List Begun) (counts : ℕ → ℕ) (t : Shared) (k : ℕ) → Holds before waits c tasks counts t → slice_get t.runs k ≡ None → Holds before waits c tasks (one_more counts k) t
no_turn before waits c tasks counts t k h none = record {
  store = h.store;
  number = h.number;
  there = λ j b e p. subst (λ n. there (state_of (alone_after before c b n)).store p ≡ there b.state.store p) (sym (counted counts j k (off j b e))) (h.there j b e p);
  same = λ j b r e i. subst (λ n. IsSameRun before waits c b.function b.places (alone_after before c b n) (in_store t.store r)) (sym (counted counts j k (off j b e))) (h.same j b r e i);
}
  where
    off : (j : ℕ) (b : Begun) → slice_get tasks j ≡ Some b → j ≡ k → ⊥
    off j b e z =
        let within = get_within tasks j b e in
        let number = h.number in
        let r = get_some t.runs j (omega arith) in
        none-some r.0 (sym none ∙ ap (slice_get t.runs) (sym z) ∙ r.1)

a_turn : (before waits : Kinds) (c : PlainCode) (tasks : List Begun) (counts : ℕ → ℕ) (t : Shared) (k : ℕ) (r : Run) → AreApart tasks → Holds before waits c tasks counts t → Turns before waits c tasks counts t k r → slice_get t.runs k ≡ Some r → Holds before waits c tasks (one_more counts k) (settled t k (later before c (in_store t.store r)))
a_turn before waits c tasks counts t k r apart h g is = record {
  store = g.goes.good;
  number = set_length t.runs k next ∙ h.number;
  there = λ j b e p. elim (same_place j k) as (λ v. there (state_of (alone_after before c b (one_more counts k j))).store p ≡ there b.state.store p) [
    | inl z ↦ subst (λ n. there (state_of (alone_after before c b n)).store p ≡ there b.state.store p) (sym (ap (one_more counts k) z ∙ counted_here counts k))
        (subst (λ q. there (state_of q).store p ≡ there b.state.store p) (sym (after_later before c (counts k) (begun b.state b.calls)))
        (subst (λ (b : Begun). there (state_of (later before c (alone_after before c b (counts k)))).store p ≡ there b.state.store p) (one_task j b e z) (g.goes.there p ∙ h.there k g.task g.is p)))
    | inr off ↦ subst (λ n. there (state_of (alone_after before c b n)).store p ≡ there b.state.store p) (sym (counted counts j k off)) (h.there j b e p)
  ];
  same = λ j b q e i. elim (same_place j k) as (λ v. IsSameRun before waits c b.function b.places (alone_after before c b (one_more counts k j)) (in_store (state_of next).store q)) [
    | inl z ↦
        let run : next ≡ q = same_Some next q (sym (set_here t.runs k r next is) ∙ ap (slice_get (slice_set t.runs k next)) (sym z) ∙ i) in
        subst (λ n. IsSameRun before waits c b.function b.places (alone_after before c b n) (in_store (state_of next).store q)) (sym (ap (one_more counts k) z ∙ counted_here counts k))
        (subst (λ x. IsSameRun before waits c b.function b.places x (in_store (state_of next).store q)) (sym (after_later before c (counts k) (begun b.state b.calls)))
        (subst (λ q. IsSameRun before waits c b.function b.places (later before c (alone_after before c b (counts k))) (in_store (state_of next).store q)) run
        (subst (λ x. IsSameRun before waits c b.function b.places (later before c (alone_after before c b (counts k))) x) (sym (own_store next))
        (subst (λ (b : Begun). IsSameRun before waits c b.function b.places (later before c (alone_after before c b (counts k))) next) (one_task j b e z) g.goes.same))))
    | inr off ↦
        subst (λ n. IsSameRun before waits c b.function b.places (alone_after before c b n) (in_store (state_of next).store q)) (sym (counted counts j k off))
        (run_stays before waits c b.function b.places t.store (state_of next).store (alone_after before c b (counts j)) q
        (λ p own. others_same before waits c tasks counts t j k r b apart h g e off p (there_like b.state.store (state_of (alone_after before c b (counts j))).store p (h.there j b e p) own))
        (h.same j b q e (sym (set_other t.runs j k next off) ∙ i)))
  ];
}
  where
    next : Run
    next = later before c (in_store t.store r)

    one_task : (j : ℕ) (b : Begun) → slice_get tasks j ≡ Some b → j ≡ k → g.task ≡ b
    one_task j b e z = same_Some g.task b (sym g.is ∙ ap (slice_get tasks) (sym z) ∙ e)

turn_holds : (before waits : Kinds) (c : PlainCode) (tasks : List Begun) (counts : ℕ → ℕ) (t : Shared) (k : ℕ) → AreLoaded before waits c tasks → AreApart tasks → Holds before waits c tasks counts t → Holds before waits c tasks (one_more counts k) (turn before c t k)
turn_holds before waits c tasks counts t k loaded apart h = by (slice_get t.runs k) refl
  where
    by : (o : Option Run) → slice_get t.runs k ≡ o → Holds before waits c tasks (one_more counts k) (turned before c t k o)
    by None e = no_turn before waits c tasks counts t k h e
    by (Some r) e = a_turn before waits c tasks counts t k r apart h (turns before waits c tasks counts t k r loaded h e) e

-- ---- schedules

recounted : (before waits : Kinds) (c : PlainCode) (tasks : List Begun) (counts others : ℕ → ℕ) (t : Shared) → ((j : ℕ) → counts j ≡ others j) → Holds before waits c tasks counts t → Holds before waits c tasks others t
recounted before waits c tasks counts others t e h = let same : ◌≡◌ {A = ℕ → ℕ} counts others = λ i j. e j i in subst (λ (n : ℕ → ℕ). Holds before waits c tasks n t) same h

schedule_holds : (before waits : Kinds) (c : PlainCode) (tasks : List Begun) (schedule : List ℕ) (counts : ℕ → ℕ) (t : Shared) → AreLoaded before waits c tasks → AreApart tasks → Holds before waits c tasks counts t → Holds before waits c tasks (λ j. counts j + count j schedule) (scheduled before c schedule t)
schedule_holds before waits c tasks [] counts t loaded apart h = recounted before waits c tasks counts (λ j. counts j + 0) t (λ j. omega arith) h
schedule_holds before waits c tasks (k ∷ ks) counts t loaded apart h =
    recounted before waits c tasks (λ j. one_more counts k j + count j ks) (λ j. counts j + (one_at j k + count j ks)) (scheduled before c ks (turn before c t k)) (λ j. omega arith)
    (schedule_holds before waits c tasks ks (one_more counts k) (turn before c t k) loaded apart (turn_holds before waits c tasks counts t k loaded apart h))

begins : (before waits : Kinds) (c : PlainCode) (tasks : List Begun) (first : Shared) → BeginTogether before waits c tasks first → Holds before waits c tasks (λ j. 0) first
begins before waits c tasks first g = record {
  store = g.store;
  number = g.number;
  there = λ k b e p. begun_there b.calls p b;
  same = g.same;
}
  where
    begun_there : (n p : ℕ) (b : Begun) → there (state_of (begun b.state n)).store p ≡ there b.state.store p
    begun_there zero p b = refl
    begun_there (suc n) p b = refl

after_schedule : (before waits : Kinds) (c : PlainCode) (tasks : List Begun) (first : Shared) (schedule : List ℕ) → AreLoaded before waits c tasks → BeginTogether before waits c tasks first → Holds before waits c tasks (λ j. count j schedule) (scheduled before c schedule first)
after_schedule before waits c tasks first schedule loaded g = recounted before waits c tasks (λ j. 0 + count j schedule) (λ j. count j schedule) (scheduled before c schedule first) (λ j. omega arith)
    (schedule_holds before waits c tasks schedule (λ j. 0) first loaded g.apart (begins before waits c tasks first g))

pub each_is_alone : (before waits : Kinds) (c : PlainCode) → EachIsAlone before waits c
each_is_alone before waits c tasks first loaded g schedule k b r e i = (after_schedule before waits c tasks first schedule loaded g).same k b r e i

pub each_keeps_its_cells : (before waits : Kinds) (c : PlainCode) → EachKeepsItsCells before waits c
each_keeps_its_cells before waits c tasks first loaded g schedule j k p b e off here = by (slice_get t.runs k) refl
  where
    t : Shared
    t = scheduled before c schedule first

    counts : ℕ → ℕ
    counts i = count i schedule

    h : Holds before waits c tasks counts t
    h = after_schedule before waits c tasks first schedule loaded g

    by : (o : Option Run) → slice_get t.runs k ≡ o → IsSameAt (turned before c t k o).store t.store (b.places p)
    by None z = (refl, refl)
    by (Some r) z = others_same before waits c tasks counts t j k r b g.apart h (turns before waits c tasks counts t k r loaded h z) e off p here

-- ---- what is seen

seen_by : (before waits : Kinds) (code : PlainCode) (n : ℕ) (f : Renaming) (shared : Store) (q r : Run) → IsStore (state_of q).store → IsSameRun before waits code n f q (in_store shared r) → IsSeenAs f shared (state_of q) (state_of r)
seen_by before waits code n f shared (Going a left k) (Going b l m) store i = record {
  held = λ size. held_are f a.store shared size store i.0.cells;
  frames = frames_are before waits code f a (record b { store = shared }) i.0;
  words = words_are before waits code f a (record b { store = shared }) i.0;
}
seen_by before waits code n f shared (Going a left k) (Over d b l m) store i = absurd i
seen_by before waits code n f shared (Over e a left k) (Going b l m) store i = absurd i
seen_by before waits code n f shared (Over e a left k) (Over d b l m) store i = record {
  held = λ size. held_are f a.store shared size store i.1.cells;
  frames = frames_are before waits code f a (record b { store = shared }) i.1;
  words = words_are before waits code f a (record b { store = shared }) i.1;
}

pub each_is_seen : (before waits : Kinds) (c : PlainCode) → EachIsSeenAsAlone before waits c
each_is_seen before waits c tasks first loaded g schedule k b r e i =
    seen_by before waits c b.function b.places (scheduled before c schedule first).store (alone before c k schedule (begun b.state b.calls)) r
    (run_alive c before waits b.function [] b.state b.calls (count k schedule) (loaded k b e)).store
    (each_is_alone before waits c tasks first loaded g schedule k b r e i)
