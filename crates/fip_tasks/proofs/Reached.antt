-- What tasks count and see along a schedule, task by task.
-- The idea: in turns of one task its run goes as it would alone over the store, and so the most of its frames and words
-- are those of the states of that run; another task's run stays, so that nothing more is seen of it.
use Rattle.std.proofs.Common.{◌≡◌, ◌≢◌, ◌⊎◌, inl, inr, ℕ, zero, suc, ◌+◌, ◌-◌, ◌^◌, ◌<◌, ◌≤◌, max, Bool, true, false, List, [], ◌∷◌, ◌++◌, length, Option, Some, None, replicate, refl, sym, ap, subst, ◌∙◌, arith}
use Rattle.std.specs.Prelude.{nat_eq, if◌then◌else◌, slice_get}
use Rattle.std.proofs.lemmas.Bool.Decides.{nat_tests}
use Rattle.cell_store.specs.Cells.{Cells, count_live, size_of}
use Rattle.fip_language.specs.Gauge.{highest_frames, highest_words}
use Rattle.task_semantics.specs.machine_semantics.Cells.{Store, held_in, count_held}
use Rattle.code_verify.specs.cell_code.Plain.{PlainCode}
use Rattle.task_semantics.specs.machine_semantics.Gauges.{seen}
use Rattle.task_semantics.specs.machine_semantics.Runs.{Run, Going, Over, state_of, comes, later, after}
use Rattle.task_semantics.specs.machine_semantics.States.{State, Next, Went, Entered, Gave, Trapped, TooDeep, Stuck, frames_held, words_held}
use Rattle.task_semantics.specs.machine_semantics.Steps.{Kinds, next}
use Rattle.task_semantics.specs.Schedules.{Shared, turn, turned, settled, scheduled, in_store}
use Rattle.task_semantics.proofs.Turns.{others_stay}
use Rattle.fip_machine.proofs.machine_cells.machine_semantics.Falling.{went_holds_less, entered_holds_same}
use Rattle.fip_machine.specs.machine_cells.Small.{store_of}
use Rattle.fip_tasks.specs.Followed.{frames_in, words_in, frames_reached, words_reached, turn_released, cells_released}
use Rattle.fip_tasks.proofs.Landings.{cells_in, own_cells}
use Rattle.fip_tasks.proofs.Lists.{at_same}
use Rattle.fip_tasks.proofs.Risen.{now_frames, now_words, more_frames, more_words, in_store_frames, in_store_words}

-- ---- stores

no_cell : (n : ℕ) → n ≡ 0 + n
no_cell n = omega arith

pub live_is_held : (k : ℕ) (cs : Cells) (rs : List Bool) → count_live k cs rs ≡ count_held k (store_of cs rs)
live_is_held k [] rs = refl
live_is_held k (o ∷ cs) [] = refl
live_is_held k (None ∷ cs) (r ∷ rs) = live_is_held k cs rs ∙ no_cell (held_in k cs rs)
live_is_held k (Some c ∷ cs) (true ∷ rs) = ap (λ n. 0 + n) (live_is_held k cs rs)
live_is_held k (Some c ∷ cs) (false ∷ rs) = ap (λ n. (if nat_eq k (size_of c) then 1 else 0) + n) (live_is_held k cs rs)

at_most_one : (b : Bool) → (if b then 1 else 0) ≤ 1
at_most_one true = omega arith
at_most_one false = omega arith

held_few : (k : ℕ) (cs : Cells) (rs : List Bool) → held_in k cs rs ≤ length cs
held_few k [] rs = omega arith
held_few k (o ∷ cs) [] = omega arith
held_few k (None ∷ cs) (r ∷ rs) = let a = held_few k cs rs in omega (arith, a)
held_few k (Some c ∷ cs) (true ∷ rs) = let a = held_few k cs rs in omega (arith, a)
held_few k (Some c ∷ cs) (false ∷ rs) = let a = held_few k cs rs in let b = at_most_one (nat_eq k (size_of c)) in omega (arith, a, b)

pub few_held : (k : ℕ) (s : Store) → count_held k s ≤ length s.cells
few_held k s = held_few k s.cells s.released

-- ---- cells are only released

comes_falls : (k : ℕ) (s : State) (left n : ℕ) (x : Next) → ((t : State) → x ≡ Went t → count_held k t.store ≤ count_held k s.store) → ((t : State) → x ≡ Entered t → count_held k t.store ≡ count_held k s.store) → count_held k (state_of (comes s left n x)).store ≤ count_held k s.store
comes_falls k s left n (Went t) a b = a t refl
comes_falls k s zero n (Entered t) a b = omega arith
comes_falls k s (suc left) n (Entered t) a b = let e = b t refl in omega (arith, e)
comes_falls k s left n (Gave ws) a b = omega arith
comes_falls k s left n (Trapped kind line col) a b = omega arith
comes_falls k s zero n TooDeep a b = omega arith
comes_falls k s (suc left) n TooDeep a b = omega arith
comes_falls k s left n Stuck a b = omega arith

module _ (kinds : Kinds) (code : PlainCode) where
  later_falls : (k : ℕ) → 1 ≤ k → (r : Run) → count_held k (state_of (later kinds code r)).store ≤ count_held k (state_of r).store
  later_falls k some (Going s left n) = comes_falls k s left (suc n) (next kinds code s) (λ t e. went_holds_less kinds code k s t some e) (λ t e. entered_holds_same kinds code k s t e)
  later_falls k some (Over e s left n) = omega arith

  pub turn_falls : (k : ℕ) → 1 ≤ k → (t : Shared) (j : ℕ) → count_held k (turn kinds code t j).store ≤ count_held k t.store
  turn_falls k some t j = by (slice_get t.runs j)
    where
      by : (o : Option Run) → count_held k (turned kinds code t j o).store ≤ count_held k t.store
      by None = omega arith
      by (Some r) = (let a = later_falls k some (in_store t.store r) in let b = ap (λ (s : Store). count_held k s) (cells_in t.store r) in omega (arith, a, b))

  -- ---- one schedule after another

  pub last_frames : (k : ℕ) (ks : List ℕ) (t : Shared) → frames_in (slice_get (scheduled kinds code ks t).runs k) ≤ frames_reached kinds code k ks t
  last_frames k [] t = omega arith
  last_frames k (j ∷ js) t = let a = last_frames k js (turn kinds code t j) in omega (arith, a)

  pub last_words : (k : ℕ) (ks : List ℕ) (t : Shared) → words_in (slice_get (scheduled kinds code ks t).runs k) ≤ words_reached kinds code k ks t
  last_words k [] t = omega arith
  last_words k (j ∷ js) t = let a = last_words k js (turn kinds code t j) in omega (arith, a)

  first_reached : (k : ℕ) (ks : List ℕ) (t : Shared) → frames_in (slice_get t.runs k) ≤ frames_reached kinds code k ks t
  first_reached k [] t = omega arith
  first_reached k (j ∷ js) t = omega arith

  first_words_reached : (k : ℕ) (ks : List ℕ) (t : Shared) → words_in (slice_get t.runs k) ≤ words_reached kinds code k ks t
  first_words_reached k [] t = omega arith
  first_words_reached k (j ∷ js) t = omega arith

  pub frames_on : (k : ℕ) (ks js : List ℕ) (t : Shared) → frames_reached kinds code k (ks ++ js) t ≡ max (frames_reached kinds code k ks t) (frames_reached kinds code k js (scheduled kinds code ks t))
  frames_on k [] js t = let a = first_reached k js t in omega (arith, a)
  frames_on k (i ∷ ks) js t = let a = frames_on k ks js (turn kinds code t i) in omega (arith, a)

  pub words_on : (k : ℕ) (ks js : List ℕ) (t : Shared) → words_reached kinds code k (ks ++ js) t ≡ max (words_reached kinds code k ks t) (words_reached kinds code k js (scheduled kinds code ks t))
  words_on k [] js t = let a = first_words_reached k js t in omega (arith, a)
  words_on k (i ∷ ks) js t = let a = words_on k ks js (turn kinds code t i) in omega (arith, a)

  pub released_on : (k size : ℕ) (ks js : List ℕ) (t : Shared) → cells_released kinds code k size (ks ++ js) t ≡ cells_released kinds code k size ks t + cells_released kinds code k size js (scheduled kinds code ks t)
  released_on k size [] js t = omega arith
  released_on k size (i ∷ ks) js t = let a = released_on k size ks js (turn kinds code t i) in omega (arith, a)

  -- no more cells are released than were held
  own_or_none : (b : Bool) (n : ℕ) → (if b then n else 0) ≤ n
  own_or_none true n = omega arith
  own_or_none false n = omega arith

  pub released_few : (k size : ℕ) → 1 ≤ size → (ks : List ℕ) (t : Shared) → cells_released kinds code k size ks t + count_held size (scheduled kinds code ks t).store ≤ count_held size t.store
  released_few k size some [] t = omega arith
  released_few k size some (j ∷ js) t =
      let a = released_few k size some js (turn kinds code t j) in
      let b = own_or_none (nat_eq k j) (turn_released kinds code size t j) in
      let f = turn_falls size some t j in
      omega (arith, a, b, f)

  -- ---- turns of one task

  same_number : (k : ℕ) → nat_eq k k ≡ true
  same_number k = grind (arith, nat_tests)

  other_number : (j k : ℕ) → j ≢ k → nat_eq j k ≡ false
  other_number j k h = by (nat_eq j k) refl
    where
      by : (b : Bool) → nat_eq j k ≡ b → b ≡ false
      by false e = refl
      by true e = absurd (h (grind (arith, nat_tests)))

  turn_at : (t : Shared) (k : ℕ) (r : Run) → slice_get t.runs k ≡ Some r → turn kinds code t k ≡ settled t k (later kinds code (in_store t.store r))
  turn_at t k r e = ap (turned kinds code t k) e

  pub own_frames : (k n : ℕ) (t : Shared) (r : Run) → slice_get t.runs k ≡ Some r → frames_reached kinds code k (replicate n k) t ≡ highest_frames (seen kinds code n (in_store t.store r))
  own_frames k zero t r e = ap frames_in e ∙ sym (in_store_frames t.store r) ∙ sym (now_frames kinds code (in_store t.store r))
  own_frames k (suc n) t r e =
      let q : Run = later kinds code (in_store t.store r) in
      let u : Shared = settled t k q in
      let rest = own_frames k n u q (at_same t.runs k r q e) in
      let same = ap (λ (w : Shared). frames_reached kinds code k (replicate n k) w) (turn_at t k r e) in
      let own = ap (λ (m : Run). highest_frames (seen kinds code n m)) (own_cells q) in
      let more = more_frames kinds code n (in_store t.store r) in
      let here = ap frames_in e in
      let stored = in_store_frames t.store r in
      omega (arith, rest, same, own, more, here, stored)

  pub own_words : (k n : ℕ) (t : Shared) (r : Run) → slice_get t.runs k ≡ Some r → words_reached kinds code k (replicate n k) t ≡ highest_words (seen kinds code n (in_store t.store r))
  own_words k zero t r e = ap words_in e ∙ sym (in_store_words t.store r) ∙ sym (now_words kinds code (in_store t.store r))
  own_words k (suc n) t r e =
      let q : Run = later kinds code (in_store t.store r) in
      let u : Shared = settled t k q in
      let rest = own_words k n u q (at_same t.runs k r q e) in
      let same = ap (λ (w : Shared). words_reached kinds code k (replicate n k) w) (turn_at t k r e) in
      let own = ap (λ (m : Run). highest_words (seen kinds code n m)) (own_cells q) in
      let more = more_words kinds code n (in_store t.store r) in
      let here = ap words_in e in
      let stored = in_store_words t.store r in
      omega (arith, rest, same, own, more, here, stored)

  pub own_released : (k n size : ℕ) → 1 ≤ size → (t : Shared) → cells_released kinds code k size (replicate n k) t + count_held size (scheduled kinds code (replicate n k) t).store ≡ count_held size t.store
  own_released k zero size some t = omega arith
  own_released k (suc n) size some t =
      let rest = own_released k n size some (turn kinds code t k) in
      let here = ap (λ b. if b then turn_released kinds code size t k else 0) (same_number k) in
      let f = turn_falls size some t k in
      omega (arith, rest, here, f)

  -- ---- the other tasks

  pub other_frames : (j k n : ℕ) (t : Shared) → j ≢ k → frames_reached kinds code j (replicate n k) t ≡ frames_in (slice_get t.runs j)
  other_frames j k zero t h = refl
  other_frames j k (suc n) t h =
      let rest = other_frames j k n (turn kinds code t k) h in
      let same = ap frames_in (others_stay kinds code t j k h) in
      omega (arith, rest, same)

  pub other_words : (j k n : ℕ) (t : Shared) → j ≢ k → words_reached kinds code j (replicate n k) t ≡ words_in (slice_get t.runs j)
  other_words j k zero t h = refl
  other_words j k (suc n) t h =
      let rest = other_words j k n (turn kinds code t k) h in
      let same = ap words_in (others_stay kinds code t j k h) in
      omega (arith, rest, same)

  pub other_released : (j k n size : ℕ) (t : Shared) → j ≢ k → cells_released kinds code j size (replicate n k) t ≡ 0
  other_released j k zero size t h = refl
  other_released j k (suc n) size t h =
      let rest = other_released j k n size (turn kinds code t k) h in
      let here = ap (λ b. if b then turn_released kinds code size t k else 0) (other_number j k h) in
      omega (arith, rest, here)
