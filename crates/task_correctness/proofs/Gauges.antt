-- What a task among others counted and saw along a schedule is what is counted and seen of its run alone.
-- The idea: along the schedule the task is at each moment where it is alone, so that as many frames and words are seen;
-- and in each turn of its own the shared store loses as many held cells as its own store alone.
use Rattle.std.proofs.Common.{◌≡◌, ◌≢◌, ◌⊎◌, inl, inr, ℕ, zero, suc, ◌+◌, ◌-◌, ◌≤◌, Bool, true, false, List, [], ◌∷◌, ◌++◌, Option, Some, None, refl, sym, ap, subst, ◌∙◌, arith}
use Rattle.std.specs.Prelude.{nat_eq, if◌then◌else◌, slice_get}
use Rattle.std.proofs.lemmas.Bool.Decides.{nat_tests}
use Rattle.fip_tasks.specs.fip_language.Store.{one_at, count}
use Rattle.fip_tasks.specs.fip_language.Gauge.{highest_frames, highest_words, lowest, highest}
use Rattle.fip_tasks.specs.fip_language.declared.limits.TheConstants.{MOST_FIELDS}
use Rattle.fip_tasks.specs.cell_code.Plain.{PlainCode, plain}
use Rattle.machine_correctness.specs.machine_semantics.Cells.{Store, IsStore, there, count_held}
use Rattle.machine_correctness.specs.machine_semantics.Gauges.{seen}
use Rattle.machine_correctness.specs.machine_semantics.Steps.{Kinds}
use Rattle.machine_correctness.specs.machine_semantics.States.{State, frames_held, words_held}
use Rattle.machine_correctness.specs.machine_semantics.Runs.{Run, Going, Over, state_of, begun, later, after}
use Rattle.machine_correctness.specs.separation.Starts.{IsStart}
use Rattle.machine_correctness.proofs.separation.Running.{run_good, run_alive}
use Rattle.machine_correctness.proofs.separation.Stores.{same_place}
use Rattle.machine_correctness.proofs.separation_kinds.Agree.{one_here, one_apart}
use Rattle.fip_tasks.specs.code_verify.Checked.{Checked}
use Rattle.fip_tasks.specs.fip_machine.declared.gauge.Gauge.{Gauge}
use Rattle.fip_tasks.specs.fip_machine.GaugeView.{Reports}
use Rattle.fip_tasks.specs.task_semantics.Schedules.{Shared, turn, turned, settled, scheduled, alone, in_store}
use Rattle.fip_tasks.specs.task_semantics.Projected.{Renaming, AreRenamed, Begun, BeginTogether, AreLoaded, IsSameRun, IsSeenAs}
use Rattle.fip_tasks.proofs.task_semantics.RunsAlike.{RunGoes, later_alike}
use Rattle.fip_tasks.proofs.task_semantics.Scheduling.{each_is_alone, each_is_seen}
use Rattle.fip_tasks.proofs.task_semantics.Turns.{goes_on}
use Rattle.fip_tasks.specs.Followed.{frames_in, words_in, frames_reached, words_reached, turn_released, cells_released, HaveFollowed}
use Rattle.fip_tasks.specs.Gauged.{IsGaugeOf, started_of}
use Rattle.fip_tasks.specs.Turns.{Standing, Turns}
use Rattle.fip_tasks.proofs.Lists.{there as beside}
use Rattle.fip_tasks.proofs.Landings.{cells_in}
use Rattle.fip_tasks.proofs.Reached.{turn_falls}
use Rattle.fip_tasks.proofs.Risen.{now_frames, now_words, more_frames, more_words, first_frames, first_words}
use Rattle.machine_correctness.proofs.tree_refinement.tree_semantics.machine_semantics.Gauged.{held, lowest_is_last, highest_is_first}
use Rattle.task_correctness.proofs.Turned.{number}
use Rattle.task_correctness.proofs.Counted.{loses_same}

-- ---- schedules

count_on : (k j : ℕ) (ks : List ℕ) → count k (ks ++ j ∷ []) ≡ count k ks + one_at k j
count_on k j [] = omega arith
count_on k j (i ∷ ks) = (let a = count_on k j ks in omega (arith, a))

on_and_on : (ks : List ℕ) (j : ℕ) (js : List ℕ) → (ks ++ j ∷ []) ++ js ≡ ks ++ (j ∷ js)
on_and_on [] j js = refl
on_and_on (i ∷ ks) j js = ap (λ xs. i ∷ xs) (on_and_on ks j js)

after_later : (kinds : Kinds) (code : PlainCode) (n : ℕ) (r : Run) → after kinds code (suc n) r ≡ later kinds code (after kinds code n r)
after_later kinds code zero r = refl
after_later kinds code (suc n) r = after_later kinds code n (later kinds code r)

same_cells : (before waits : Kinds) (code : PlainCode) (n : ℕ) (f : Renaming) (a m : Run) → IsSameRun before waits code n f a m → AreRenamed f (state_of a).store (state_of m).store
same_cells before waits code n f (Going s l i) (Going t l' j) h = h.0.cells
same_cells before waits code n f (Going s l i) (Over e t l' j) h = absurd h
same_cells before waits code n f (Over e s l i) (Going t l' j) h = absurd h
same_cells before waits code n f (Over e s l i) (Over d t l' j) h = h.1.cells

module _ (before waits : Kinds) (c : PlainCode) (tasks : List Begun) (first : Shared) (loaded : AreLoaded before waits c tasks) (together : BeginTogether before waits c tasks first) where
  abbrev code : PlainCode
  code = c

  -- the runs after some turns
  abbrev at : List ℕ → Shared
  at ks = scheduled before code ks first

  at_more : (ks : List ℕ) (j : ℕ) → at (ks ++ j ∷ []) ≡ turn before code (at ks) j
  at_more ks j = goes_on before code ks (j ∷ []) first

  -- a task alone after them
  abbrev alone_at : List ℕ → ℕ → Begun → Run
  alone_at ks k b = alone before code k ks (begun b.state b.calls)

  own_more : (ks : List ℕ) (k : ℕ) (b : Begun) → alone_at (ks ++ k ∷ []) k b ≡ later before code (alone_at ks k b)
  own_more ks k b =
      let one = one_here k k refl in
      let n = count_on k k ks in
      let e : count k (ks ++ k ∷ []) ≡ suc (count k ks) = omega (arith, one, n) in
      ap (λ m. after before code m (begun b.state b.calls)) e ∙ after_later before code (count k ks) (begun b.state b.calls)

  other_more : (ks : List ℕ) (j k : ℕ) (b : Begun) → j ≢ k → alone_at (ks ++ k ∷ []) j b ≡ alone_at ks j b
  other_more ks j k b off =
      let none = one_apart j k off in
      let n = count_on j k ks in
      let e : count j (ks ++ k ∷ []) ≡ count j ks = omega (arith, none, n) in
      ap (λ m. after before code m (begun b.state b.calls)) e

  -- a turn of a task whose run is there
  goes : (ks : List ℕ) (j : ℕ) (b : Begun) (r : Run) → IsStore (at ks).store → slice_get tasks j ≡ Some b → slice_get (at ks).runs j ≡ Some r → RunGoes before waits c b.function b.places (alone_at ks j b) (in_store (at ks).store r) (later before code (alone_at ks j b)) (later before code (in_store (at ks).store r))
  goes ks j b r store is on =
      let start : IsStart c before waits b.function [] b.state = loaded j b is in
      later_alike before waits c b.function b.places [] (alone_at ks j b) (in_store (at ks).store r) start.sound start.literals start.kinds
      (run_good c before waits b.function [] b.state b.calls (count j ks) start) (subst IsStore (sym (cells_in (at ks).store r)) store) (each_is_alone before waits c tasks first loaded together ks j b r is on)

  turn_at : (t : Shared) (j : ℕ) (r : Run) → slice_get t.runs j ≡ Some r → turn before code t j ≡ settled t j (later before code (in_store t.store r))
  turn_at t j r e = ap (turned before code t j) e

  -- the store is one after each turn
  store_more : (ks : List ℕ) (j : ℕ) → IsStore (at ks).store → IsStore (at (ks ++ j ∷ [])).store
  store_more ks j store = subst (λ (s : Shared). IsStore s.store) (sym (at_more ks j)) (by (slice_get (at ks).runs j) refl)
    where
      by : (o : Option Run) → slice_get (at ks).runs j ≡ o → IsStore (turned before code (at ks) j o).store
      by None e = store
      by (Some r) e =
          let b = beside (at ks).runs tasks j r (number before code ks first ∙ together.number) e in
          (goes ks j b.0 r store b.1 e).good

  -- ---- one task

  module _ (k : ℕ) (b : Begun) (is : slice_get tasks k ≡ Some b) where
    run_there : (ks : List ℕ) → (r : Run) × (slice_get (at ks).runs k ≡ Some r)
    run_there ks = beside tasks (at ks).runs k b (sym (number before code ks first ∙ together.number)) is

    seen_there : (ks : List ℕ) → IsSeenAs b.places (at ks).store (state_of (alone_at ks k b)) (state_of (run_there ks).0)
    seen_there ks = each_is_seen before waits c tasks first loaded together ks k b (run_there ks).0 is (run_there ks).1

    frames_there : (ks : List ℕ) → frames_in (slice_get (at ks).runs k) ≡ frames_held (state_of (alone_at ks k b))
    frames_there ks = ap frames_in (run_there ks).1 ∙ (seen_there ks).frames

    words_there : (ks : List ℕ) → words_in (slice_get (at ks).runs k) ≡ words_held (state_of (alone_at ks k b))
    words_there ks = ap words_in (run_there ks).1 ∙ (seen_there ks).words

    count_own : (js : List ℕ) → count k (k ∷ js) ≡ suc (count k js)
    count_own js = (let one = one_here k k refl in omega (arith, one))

    count_other : (j : ℕ) (js : List ℕ) → k ≢ j → count k (j ∷ js) ≡ count k js
    count_other j js off = (let none = one_apart k j off in omega (arith, none))

    reached_frames : (js ks : List ℕ) → frames_reached before code k js (at ks) ≡ highest_frames (seen before code (count k js) (alone_at ks k b))
    reached_frames [] ks = frames_there ks ∙ sym (now_frames before code (alone_at ks k b))
    reached_frames (j ∷ js) ks =
        let here = frames_there ks in
        let next = ap (λ (s : Shared). frames_reached before code k js s) (at_more ks j) in
        let rest = reached_frames js (ks ++ j ∷ []) in
        elim (same_place k j) [
          | inl e ↦ (
              let own : alone_at (ks ++ j ∷ []) k b ≡ later before code (alone_at ks k b) = ap (λ i. alone_at (ks ++ i ∷ []) k b) (sym e) ∙ own_more ks k b in
              let state = ap (λ (r : Run). highest_frames (seen before code (count k js) r)) own in
              let more = more_frames before code (count k js) (alone_at ks k b) in
              let n : count k (j ∷ js) ≡ suc (count k js) = ap (λ i. count k (i ∷ js)) (sym e) ∙ count_own js in
              let m = ap (λ i. highest_frames (seen before code i (alone_at ks k b))) n in
              omega (arith, here, next, rest, state, more, m))
          | inr off ↦ (
              let state = ap (λ (r : Run). highest_frames (seen before code (count k js) r)) (other_more ks k j b off) in
              let least = first_frames before code (count k js) (alone_at ks k b) in
              let m = ap (λ i. highest_frames (seen before code i (alone_at ks k b))) (count_other j js off) in
              omega (arith, here, next, rest, state, least, m))
        ]

    reached_words : (js ks : List ℕ) → words_reached before code k js (at ks) ≡ highest_words (seen before code (count k js) (alone_at ks k b))
    reached_words [] ks = words_there ks ∙ sym (now_words before code (alone_at ks k b))
    reached_words (j ∷ js) ks =
        let here = words_there ks in
        let next = ap (λ (s : Shared). words_reached before code k js s) (at_more ks j) in
        let rest = reached_words js (ks ++ j ∷ []) in
        elim (same_place k j) [
          | inl e ↦ (
              let own : alone_at (ks ++ j ∷ []) k b ≡ later before code (alone_at ks k b) = ap (λ i. alone_at (ks ++ i ∷ []) k b) (sym e) ∙ own_more ks k b in
              let state = ap (λ (r : Run). highest_words (seen before code (count k js) r)) own in
              let more = more_words before code (count k js) (alone_at ks k b) in
              let n : count k (j ∷ js) ≡ suc (count k js) = ap (λ i. count k (i ∷ js)) (sym e) ∙ count_own js in
              let m = ap (λ i. highest_words (seen before code i (alone_at ks k b))) n in
              omega (arith, here, next, rest, state, more, m))
          | inr off ↦ (
              let state = ap (λ (r : Run). highest_words (seen before code (count k js) r)) (other_more ks k j b off) in
              let least = first_words before code (count k js) (alone_at ks k b) in
              let m = ap (λ i. highest_words (seen before code i (alone_at ks k b))) (count_other j js off) in
              omega (arith, here, next, rest, state, least, m))
        ]

    -- a turn of its own
    own_loses : (size : ℕ) → 1 ≤ size → (ks : List ℕ) → IsStore (at ks).store → turn_released before code size (at ks) k + held size (alone_at (ks ++ k ∷ []) k b) ≡ held size (alone_at ks k b)
    own_loses size some ks store =
        let r = run_there ks in
        let now : Run = in_store (at ks).store r.0 in
        let a : Run = alone_at ks k b in
        let g = goes ks k b r.0 store is r.1 in
        let start : IsStart c before waits b.function [] b.state = loaded k b is in
        let next_is : state_of (later before code a) ≡ state_of (alone_at (ks ++ k ∷ []) k b) = ap (λ (m : Run). state_of m) (sym (own_more ks k b)) in
        let own : IsStore (state_of a).store = (run_alive c before waits b.function [] b.state b.calls (count k ks) start).store in
        let own' : IsStore (state_of (later before code a)).store = subst (λ (s : State). IsStore s.store) (sym next_is) (run_alive c before waits b.function [] b.state b.calls (count k (ks ++ k ∷ [])) start).store in
        let x : AreRenamed b.places (state_of a).store (state_of now).store = same_cells before waits code b.function b.places a now (each_is_alone before waits c tasks first loaded together ks k b r.0 is r.1) in
        let y : AreRenamed b.places (state_of (later before code a)).store (state_of (later before code now)).store = same_cells before waits code b.function b.places (later before code a) (later before code now) g.same in
        let loses = loses_same size b.places (state_of a).store (state_of (later before code a)).store (state_of now).store (state_of (later before code now)).store own own' (subst IsStore (sym (cells_in (at ks).store r.0)) store) g.good x y g.there g.beyond in
        let stored = ap (λ (s : Store). count_held size s) (cells_in (at ks).store r.0) in
        let turns = ap (λ (s : Shared). count_held size s.store) (turn_at (at ks) k r.0 r.1) in
        let falls = turn_falls before code size some (at ks) k in
        let alone_next = ap (λ (s : State). count_held size s.store) next_is in
        omega (arith, loses, stored, turns, falls, alone_next)

    same_number : (j : ℕ) → k ≡ j → nat_eq k j ≡ true
    same_number j e = grind (arith, nat_tests)

    other_number : (j : ℕ) → k ≢ j → nat_eq k j ≡ false
    other_number j off = by (nat_eq k j) refl
      where
        by : (x : Bool) → nat_eq k j ≡ x → x ≡ false
        by false e = refl
        by true e = absurd (off (grind (arith, nat_tests)))

    lost : (size : ℕ) → 1 ≤ size → (js ks : List ℕ) → IsStore (at ks).store → cells_released before code k size js (at ks) + held size (alone_at (ks ++ js) k b) ≡ held size (alone_at ks k b)
    lost size some [] ks store = (let e = ap (λ xs. held size (alone_at xs k b)) (none_more ks) in omega (arith, e))
      where
        none_more : (xs : List ℕ) → xs ++ [] ≡ xs
        none_more [] = refl
        none_more (x ∷ xs) = ap (λ ys. x ∷ ys) (none_more xs)
    lost size some (j ∷ js) ks store =
        let next = ap (λ (s : Shared). cells_released before code k size js s) (at_more ks j) in
        let rest = lost size some js (ks ++ j ∷ []) (store_more ks j store) in
        let all = ap (λ xs. held size (alone_at xs k b)) (on_and_on ks j js) in
        elim (same_place k j) [
          | inl e ↦ (
              let here = ap (λ x. if x then turn_released before code size (at ks) j else 0) (same_number j e) in
              let own = subst (λ i. turn_released before code size (at ks) i + held size (alone_at (ks ++ i ∷ []) k b) ≡ held size (alone_at ks k b)) e (own_loses size some ks store) in
              omega (arith, next, rest, all, here, own))
          | inr off ↦ (
              let here = ap (λ x. if x then turn_released before code size (at ks) j else 0) (other_number j off) in
              let same = ap (λ (r : Run). held size r) (other_more ks k j b off) in
              omega (arith, next, rest, all, here, same))
        ]

-- ---- the gauge

first_held : (size : ℕ) (s : State) (n : ℕ) → held size (begun s n) ≡ count_held size s.store
first_held size s zero = refl
first_held size s (suc n) = refl

-- what is required of a task's numbers: those of its run alone
record IsCountedAlone (before : Kinds) (code : PlainCode) (first : Shared) (schedule : List ℕ) (k : ℕ) (b : Begun) : Type 0 where
  frames : frames_reached before code k schedule first ≡ highest_frames (seen before code (count k schedule) (begun b.state b.calls))
  words : words_reached before code k schedule first ≡ highest_words (seen before code (count k schedule) (begun b.state b.calls))
  released : (size : ℕ) → 1 ≤ size → cells_released before code k size schedule first + held size (alone before code k schedule (begun b.state b.calls)) ≡ held size (begun b.state b.calls)

counted_alone : (before waits : Kinds) (c : PlainCode) (tasks : List Begun) (first : Shared) (schedule : List ℕ) (k : ℕ) (b : Begun) → AreLoaded before waits c tasks → BeginTogether before waits c tasks first → slice_get tasks k ≡ Some b → IsCountedAlone before c first schedule k b
counted_alone before waits c tasks first schedule k b loaded together is = record {
  frames = reached_frames before waits c tasks first loaded together k b is schedule [];
  words = reached_words before waits c tasks first loaded together k b is schedule [];
  released = λ size some. lost before waits c tasks first loaded together k b is size some schedule [] together.store;
}

pub gauge_alone : (v : Checked) (before waits : Kinds) (tasks : List Begun) (first : Shared) (schedule : List ℕ) (turns : Turns) (k : ℕ) (b : Begun) (a : Standing) (g : Gauge) → AreLoaded before waits (plain v.code) tasks → BeginTogether before waits (plain v.code) tasks first → HaveFollowed v before first schedule turns → slice_get tasks k ≡ Some b → slice_get turns.tasks k ≡ Some a → ((size : ℕ) → 1 ≤ size → size ≤ MOST_FIELDS → started_of a size ≡ count_held size b.state.store) → IsGaugeOf a g → Reports g (seen before (plain v.code) (count k schedule) (begun b.state b.calls))
gauge_alone v before waits tasks first schedule turns k b a g loaded together followed is on starts gauge =
    let code = plain v.code in
    let r : Run = begun b.state b.calls in
    let n = count k schedule in
    let counts = counted_alone before waits (plain v.code) tasks first schedule k b loaded together is in
    let s = followed.seen k a on in
    record {
      lowest = λ size some few.
          let low = gauge.lowest size some few in
          let began = starts size some few in
          let freed = s.freed size some few in
          let lost = counts.released size some in
          let first = first_held size b.state b.calls in
          let last = lowest_is_last before code size some n r in
          omega (arith, low, began, freed, lost, first, last);
      highest = λ size some few.
          let high = gauge.highest size some few in
          let began = starts size some few in
          let first = first_held size b.state b.calls in
          let most = highest_is_first before code size some n r in
          omega (arith, high, began, first, most);
      frames = gauge.frames ∙ s.frames ∙ counts.frames;
      words = gauge.words ∙ s.words ∙ counts.words;
    }
