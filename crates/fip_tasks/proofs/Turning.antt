-- Turns of one of many tasks, over one store.
use Rattle.std.proofs.Common.{◌≡◌, ◌≢◌, ◌⊎◌, inl, inr, ℕ, zero, suc, ◌<◌, ◌≤◌, ◌^◌, ◌+◌, List, [], ◌∷◌, ◌++◌, Some, refl, sym, ap, subst, ◌∙◌, length, map, replicate, get_or, length-set, arith}
use Rattle.std.proofs.lemmas.Option.{same_Some, slice_get-map, slice_get_read}
use Rattle.std.specs.Prelude.{slice_get, slice_set, option_map}
use Rattle.cell_store.specs.Cells.{Cells}
use Rattle.cell_store.specs.Made.{Stored}
use Rattle.code_verify.specs.Checked.{Checked}
use Rattle.code_verify.specs.cell_code.Plain.{PlainCode, plain}
use Rattle.task_semantics.specs.machine_semantics.Cells.{Store, count_held}
use Rattle.task_semantics.specs.machine_semantics.Gauges as G
use Rattle.task_semantics.specs.machine_semantics.States.{frames_held, words_held}
use Rattle.task_semantics.specs.machine_semantics.Steps.{Kinds}
use Rattle.task_semantics.proofs.Turns.{goes_on}
use Rattle.task_semantics.specs.machine_semantics.Runs.{Run, state_of, later, after}
use Rattle.fip_machine.specs.machine_cells.Small.{IsSmall, store_of}
use Rattle.task_semantics.specs.Schedules.{Shared, turn, turned, settled, scheduled, in_store}
use Rattle.fip_tasks.specs.declared.task.Start.{Start}
use Rattle.fip_tasks.specs.declared.task.Task.{Task}
use Rattle.fip_tasks.specs.Landing.{standing, cells_of, IsLanded, IsWithin, HasRisen, Lands, Goes, IsNew, HasBegun, Begins}
use Rattle.fip_tasks.specs.Shown.{StandsAt, CanGo, CanTurn, CanFinish, Shows, AreStarted}
use Rattle.fip_tasks.specs.Turns.{Standing, Turns}
use Rattle.fip_tasks.specs.Gauged.{HasCounted, HoldsAtStart}
use Rattle.fip_tasks.proofs.Lists.{at_same, at_other, at_push, map_set, there}
use Rattle.fip_tasks.specs.Followed.{frames_in, words_in, HasSeen, HaveSeen, HaveFollowed}
use Rattle.fip_tasks.proofs.Landings.{from_cells, cells_in, own_cells}
use Rattle.fip_tasks.proofs.Reached.{live_is_held, few_held, last_frames, last_words, frames_on, words_on, released_on, released_few, own_frames, own_words, own_released, other_frames, other_words, other_released}
use Rattle.fip_language.proofs.Facts.{same_or_not as same_place}

-- ---- places

-- ---- turns of one task

-- After turns of task k alone its run is this one over the new cells, and no other run changes.
pub record HaveTurned (t u : Shared) (k : ℕ) (q : Run) : Type 0 where
  pub run : Run
  pub is : slice_get u.runs k ≡ Some run
  pub over : in_store u.store run ≡ q
  pub others : (j : ℕ) → j ≢ k → slice_get u.runs j ≡ slice_get t.runs j
  pub number : length u.runs ≡ length t.runs

pub have_turned : (kinds : Kinds) (code : PlainCode) (n : ℕ) (t : Shared) (k : ℕ) (r : Run) → slice_get t.runs k ≡ Some r → HaveTurned t (scheduled kinds code (replicate n k) t) k (after kinds code n (in_store t.store r))
have_turned kinds code zero t k r e = record {
  run = r;
  is = e;
  over = refl;
  others = λ j h. refl;
  number = refl;
}
have_turned kinds code (suc n) t k r e =
    let q : Run = later kinds code (in_store t.store r) in
    let u : Shared = settled t k q in
    let at : turn kinds code t k ≡ u = ap (turned kinds code t k) e in
    let own : in_store u.store q ≡ q = own_cells q in
    let h = have_turned kinds code n u k q (at_same t.runs k r q e) in
    let g : HaveTurned t (scheduled kinds code (replicate n k) u) k (after kinds code n q) = record {
      run = h.run;
      is = h.is;
      over = h.over ∙ ap (after kinds code n) own;
      others = λ j m. h.others j m ∙ at_other t.runs k j q m;
      number = h.number ∙ length-set t.runs k q;
    } in
    subst (λ (w : Shared). HaveTurned t (scheduled kinds code (replicate n k) w) k (after kinds code n q)) (sym at) g

pub shows_after : (v : Checked) (kinds : Kinds) (n : ℕ) (t : Turns) (shared : Shared) (k : ℕ) (a b : Standing) (cells : Store) (pushed : List ℕ) (r : Run) → Shows v t shared → slice_get t.tasks k ≡ Some a → slice_get shared.runs k ≡ Some r → IsSmall cells.cells → pushed ≡ [] → IsLanded v b cells (after kinds (plain v.code) n (in_store shared.store r)) → Shows v (record { tasks = slice_set t.tasks k b; store = cells; pushed = pushed }) (scheduled kinds (plain v.code) (replicate n k) shared)
shows_after v kinds n t shared k a b cells pushed r s at run small empty landed =
    let u : Shared = scheduled kinds (plain v.code) (replicate n k) shared in
    let h = have_turned kinds (plain v.code) n shared k r run in
    record {
      store = sym (sym (cells_in u.store h.run) ∙ ap (λ q. (state_of q).store) h.over ∙ landed.cells);
      small = small;
      empty = empty;
      number = length-set t.tasks k b ∙ s.number ∙ sym h.number;
      tasks = λ j c q is on. elim (same_place j k) [
        | inl e ↦ (
            let own : b ≡ c = same_Some b c (sym (at_same t.tasks k a b at) ∙ ap (slice_get (slice_set t.tasks k b)) (sym e) ∙ is) in
            let same : h.run ≡ q = same_Some h.run q (sym h.is ∙ ap (slice_get u.runs) (sym e) ∙ on) in
            let stands : StandsAt v b h.run = from_cells v b u.store h.run (subst (λ (m : Run). StandsAt v b m) (sym h.over) landed.stands) in
            subst (λ (m : Run). StandsAt v c m) same (subst (λ (m : Standing). StandsAt v m h.run) own stands))
        | inr m ↦ s.tasks j c q (sym (at_other t.tasks k j b m) ∙ is) (sym (h.others j m) ∙ on)
      ];
    }

-- a run that can finish can go on after each number of steps
pub can_go : (v : Checked) (kinds : Kinds) (shared : Shared) (k : ℕ) (r : Run) → slice_get shared.runs k ≡ Some r → CanFinish v kinds shared k → (n : ℕ) → CanGo v kinds (after kinds (plain v.code) n (in_store shared.store r))
can_go v kinds shared k r run can n =
    let h = have_turned kinds (plain v.code) n shared k r run in
    subst (λ (m : Run). CanGo v kinds m) h.over (can n h.run h.is)

-- ---- for the answers of turns

-- the task that was put at its number
pub is_set : (ts : List Task) (k : ℕ) (t : Task) (a : Standing) → k < length ts → slice_get (map standing (slice_set ts k t)) k ≡ Some a → standing t ≡ a
is_set [] k t a h e = absurd (omega (arith, h))
is_set (x ∷ xs) zero t a h e = same_Some (standing t) a e
is_set (x ∷ xs) (suc k) t a h e = is_set xs k t a (omega (arith, h)) e

-- the task that stood at its number
pub was_set : (ts : List Task) (k : ℕ) (x : Task) (a : Standing) → slice_get ts k ≡ Some x → slice_get (map standing ts) k ≡ Some a → standing x ≡ a
was_set ts k x a at is = same_Some (standing x) a (sym (ap (λ o. option_map standing o) at) ∙ sym (slice_get-map standing ts k) ∙ is)

-- what its turns released is counted
pub counts_at : (ts : List Task) (k : ℕ) (x t : Task) (a b : Standing) (before following : Store) → k < length ts → slice_get ts k ≡ Some x → slice_get (map standing ts) k ≡ Some a → slice_get (map standing (slice_set ts k t)) k ≡ Some b → HasCounted (standing x) before (standing t) following → HasCounted a before b following
counts_at ts k x t a b before following within at old new counted = subst (λ (z : Standing). HasCounted z before b following) (was_set ts k x a at old) (subst (λ (z : Standing). HasCounted (standing x) before z following) (is_set ts k t b within new) counted)

-- the others stay
pub others_at : (ts : List Task) (k j : ℕ) (t : Task) → j ≢ k → slice_get (map standing (slice_set ts k t)) j ≡ slice_get (map standing ts) j
others_at ts k j t h = ap (λ zs. slice_get zs j) (map_set standing ts k t) ∙ at_other (map standing ts) k j (standing t) h

pub within : (ts : List Task) (k : ℕ) → k < length (map standing ts) → k < length ts
within [] k h = h
within (x ∷ xs) zero h = omega arith
within (x ∷ xs) (suc k) h = let f = within xs k (omega (arith, h)) in omega (arith, f)

pub read_at : (ts : List Task) (k : ℕ) (x : Task) → k < length ts → x ≡ get_or ts k x → slice_get ts k ≡ Some x
read_at ts k x h e = slice_get_read ts (length ts) k x refl h e

pub map_length : (ts : List Task) → length (map standing ts) ≡ length ts
map_length [] = refl
map_length (x ∷ xs) = ap suc (map_length xs)

-- the tasks as callers see them
abbrev pub seen : List Task → Stored → Turns
seen ts cells = record { tasks = map standing ts; store = store_of cells.cells cells.released; pushed = cells.pushed }

-- the task's own turns, as turns of it among others
pub shows_landed : (v : Checked) (kinds : Kinds) (ts : List Task) (before following : Stored) (shared : Shared) (k : ℕ) (x t : Task) (n : ℕ) (r : Run) → Shows v (seen ts before) shared → slice_get ts k ≡ Some x → slice_get shared.runs k ≡ Some r → (IsSmall before.cells → IsSmall following.cells) → (before.pushed ≡ [] → following.pushed ≡ []) → IsLanded v (standing t) (cells_of following) (after kinds (plain v.code) n (in_store shared.store r)) → Shows v (seen (slice_set ts k t) following) (scheduled kinds (plain v.code) (replicate n k) shared)
shows_landed v kinds ts before following shared k x t n r s at run small empty landed =
    let there : slice_get (map standing ts) k ≡ Some (standing x) = slice_get-map standing ts k ∙ ap (λ o. option_map standing o) at in
    let shows = shows_after v kinds n (seen ts before) shared k (standing x) (standing t) (cells_of following) following.pushed r s there run (small s.small) (empty s.empty) landed in
    subst (λ (zs : List Standing). Shows v (record { tasks = zs; store = cells_of following; pushed = following.pushed }) (scheduled kinds (plain v.code) (replicate n k) shared)) (sym (map_set standing ts k t)) shows

-- where the run of a task is
pub run_at : (v : Checked) (ts : List Task) (before : Stored) (shared : Shared) (k : ℕ) (x : Task) → Shows v (seen ts before) shared → slice_get ts k ≡ Some x → (r : Run) × (slice_get shared.runs k ≡ Some r) × StandsAt v (standing x) r
run_at v ts before shared k x s at =
    let there_at : slice_get (map standing ts) k ≡ Some (standing x) = slice_get-map standing ts k ∙ ap (λ o. option_map standing o) at in
    let h = there (map standing ts) shared.runs k (standing x) s.number there_at in
    (h.0, h.1, s.tasks k (standing x) h.0 there_at h.1)

-- a turn of the task is a turn of the schedule
pub turn_shows : (v : Checked) (kinds : Kinds) (ts : List Task) (before following : Stored) (shared : Shared) (k : ℕ) (x t : Task) → Shows v (seen ts before) shared → CanTurn v kinds shared k → slice_get ts k ≡ Some x → Lands (standing x) before (standing t) following → Shows v (seen (slice_set ts k t) following) (turn kinds (plain v.code) shared k)
turn_shows v kinds ts before following shared k x t s can at lands =
    let r = run_at v ts before shared k x s at in
    let can_go : CanGo v kinds (in_store (cells_of before) r.0) = subst (λ (c : Store). CanGo v kinds (in_store c r.0)) (sym s.store) (can r.0 r.1) in
    let landed : IsLanded v (standing t) (cells_of following) (later kinds (plain v.code) (in_store shared.store r.0)) =
    subst (λ (c : Store). IsLanded v (standing t) (cells_of following) (later kinds (plain v.code) (in_store c r.0))) s.store (lands.turn v kinds r.0 s.small s.empty r.2 can_go) in
    shows_landed v kinds ts before following shared k x t 1 r.0 s at r.1 lands.small lands.empty landed

-- where the task is after as many turns as it takes, and what it saw
turns_gone : (v : Checked) (kinds : Kinds) (ts : List Task) (before following : Stored) (shared : Shared) (k : ℕ) (x t : Task) (r : Run) → Shows v (seen ts before) shared → slice_get shared.runs k ≡ Some r → StandsAt v (standing x) r → CanFinish v kinds shared k → Goes (standing x) before (standing t) following → (n : ℕ) × IsLanded v (standing t) (cells_of following) (after kinds (plain v.code) n (in_store shared.store r)) × (IsWithin (standing x) r → HasRisen (standing x) (standing t) (G.seen kinds (plain v.code) n (in_store shared.store r)))
turns_gone v kinds ts before following shared k x t r s run at can goes =
    let can_all : (n : ℕ) → CanGo v kinds (after kinds (plain v.code) n (in_store (cells_of before) r)) = λ n.
    subst (λ (c : Store). CanGo v kinds (after kinds (plain v.code) n (in_store c r))) (sym s.store) (can_go v kinds shared k r run can n) in
    let h = goes.turns v kinds r s.small s.empty at can_all in (
      h.0,
      subst (λ (c : Store). IsLanded v (standing t) (cells_of following) (after kinds (plain v.code) h.0 (in_store c r))) s.store h.1,
      λ within. subst (λ (c : Store). HasRisen (standing x) (standing t) (G.seen kinds (plain v.code) h.0 (in_store c r))) s.store (h.2 within),
    )

-- and so with many
pub turns_show : (v : Checked) (kinds : Kinds) (ts : List Task) (before following : Stored) (shared : Shared) (k : ℕ) (x t : Task) → Shows v (seen ts before) shared → CanFinish v kinds shared k → slice_get ts k ≡ Some x → Goes (standing x) before (standing t) following → (n : ℕ) × Shows v (seen (slice_set ts k t) following) (scheduled kinds (plain v.code) (replicate n k) shared)
turns_show v kinds ts before following shared k x t s can at goes =
    let r = run_at v ts before shared k x s at in
    let g = turns_gone v kinds ts before following shared k x t r.0 s r.1 r.2 can goes in
    (g.0, shows_landed v kinds ts before following shared k x t g.0 r.0 s at r.1 goes.small goes.empty g.1)

-- ---- what tasks saw along a schedule

-- task k did so many turns after a schedule, and what it saw and released
record HasGone (kinds : Kinds) (code : PlainCode) (first : Shared) (schedule : List ℕ) (k n : ℕ) (a b : Standing) (before following : Store) (r : Run) : Type 0 where
  is : slice_get (scheduled kinds code schedule first).runs k ≡ Some r
  store : before ≡ (scheduled kinds code schedule first).store
  stored : following ≡ (scheduled kinds code (replicate n k) (scheduled kinds code schedule first)).store
  small : IsSmall first.store.cells
  risen : IsWithin a r → HasRisen a b (G.seen kinds code n (in_store (scheduled kinds code schedule first).store r))
  counted : HasCounted a before b following

module _ (kinds : Kinds) (code : PlainCode) (first : Shared) (schedule : List ℕ) where
  -- the task whose turns they were
  own_seen : (k n : ℕ) (a b : Standing) (before following : Store) (r : Run) → HasGone kinds code first schedule k n a b before following r → HasSeen kinds code first schedule k a → HasSeen kinds code first (schedule ++ replicate n k) k b
  own_seen k n a b before following r g old =
      let now : Shared = scheduled kinds code schedule first in
      let lf = last_frames kinds code k schedule first in
      let lw = last_words kinds code k schedule first in
      let rf = ap frames_in g.is in
      let rw = ap words_in g.is in
      let of = old.frames in
      let ow = old.words in
      let rise = g.risen (omega (arith, lf, rf, of), omega (arith, lw, rw, ow)) in
      let bf = rise.frames in
      let bw = rise.words in
      let f = frames_on kinds code k schedule (replicate n k) first in
      let w = words_on kinds code k schedule (replicate n k) first in
      let hf = own_frames kinds code k n now r g.is in
      let hw = own_words kinds code k n now r g.is in
      record {
        frames = omega (arith, of, bf, f, hf);
        words = omega (arith, ow, bw, w, hw);
        freed = λ size some few.
            let freed = old.freed size some few in
            let on = released_on kinds code k size schedule (replicate n k) first in
            let mine = own_released kinds code k n size some now in
            let all = released_few kinds code k size some schedule first in
            let most = few_held size first.store in
            let small = g.small in
            let x = live_is_held size before.cells before.released ∙ ap (λ (s : Store). count_held size s) g.store in
            let y = live_is_held size following.cells following.released ∙ ap (λ (s : Store). count_held size s) g.stored in
            let counts = g.counted.counted size some few (omega (arith, freed, all, most, small, x)) in
            omega (arith, freed, on, mine, x, y, counts);
      }

  -- another one
  other_seen : (j k n : ℕ) (a : Standing) → j ≢ k → HasSeen kinds code first schedule j a → HasSeen kinds code first (schedule ++ replicate n k) j a
  other_seen j k n a h old =
      let now : Shared = scheduled kinds code schedule first in
      let lf = last_frames kinds code j schedule first in
      let lw = last_words kinds code j schedule first in
      let of = old.frames in
      let ow = old.words in
      let f = frames_on kinds code j schedule (replicate n k) first in
      let w = words_on kinds code j schedule (replicate n k) first in
      let sf = other_frames kinds code j k n now h in
      let sw = other_words kinds code j k n now h in
      record {
        frames = omega (arith, lf, of, f, sf);
        words = omega (arith, lw, ow, w, sw);
        freed = λ size some few.
            let freed = old.freed size some few in
            let on = released_on kinds code j size schedule (replicate n k) first in
            let none = other_released kinds code j k n size now h in
            omega (arith, freed, on, none);
      }

  -- all of them
  all_seen : (ts : List Task) (k n : ℕ) (x t : Task) (before following : Store) (cells pushed : Stored) (r : Run) → slice_get ts k ≡ Some x → HasGone kinds code first schedule k n (standing x) (standing t) before following r → HaveSeen kinds code first schedule (seen ts cells) → HaveSeen kinds code first (schedule ++ replicate n k) (seen (slice_set ts k t) pushed)
  all_seen ts k n x t before following cells pushed r at g old j c is =
      let there_at : slice_get (map standing ts) k ≡ Some (standing x) = slice_get-map standing ts k ∙ ap (λ o. option_map standing o) at in
      elim (same_place j k) [
        | inl e ↦ (
            let now : slice_get (slice_set (map standing ts) k (standing t)) j ≡ Some c = ap (λ zs. slice_get zs j) (sym (map_set standing ts k t)) ∙ is in
            let own : standing t ≡ c = same_Some (standing t) c (sym (at_same (map standing ts) k (standing x) (standing t) there_at) ∙ ap (slice_get (slice_set (map standing ts) k (standing t))) (sym e) ∙ now) in
            let s : HasSeen kinds code first (schedule ++ replicate n k) k (standing t) = own_seen k n (standing x) (standing t) before following r g (old k (standing x) there_at) in
            subst (λ i. HasSeen kinds code first (schedule ++ replicate n k) i c) (sym e) (subst (λ (z : Standing). HasSeen kinds code first (schedule ++ replicate n k) k z) own s))
        | inr m ↦ other_seen j k n c m (old j c (sym (others_at ts k j t m) ∙ is))
      ]

-- the task did so many turns of its own, after a schedule that the tasks have followed
pub followed_landed : (v : Checked) (kinds : Kinds) (first : Shared) (schedule : List ℕ) (ts : List Task) (before following : Stored) (k : ℕ) (x t : Task) (n : ℕ) (r : Run) → HaveFollowed v kinds first schedule (seen ts before) → slice_get ts k ≡ Some x → slice_get (scheduled kinds (plain v.code) schedule first).runs k ≡ Some r → HasCounted (standing x) (cells_of before) (standing t) (cells_of following) → (IsWithin (standing x) r → HasRisen (standing x) (standing t) (G.seen kinds (plain v.code) n (in_store (scheduled kinds (plain v.code) schedule first).store r))) → Shows v (seen (slice_set ts k t) following) (scheduled kinds (plain v.code) (replicate n k) (scheduled kinds (plain v.code) schedule first)) → HaveFollowed v kinds first (schedule ++ replicate n k) (seen (slice_set ts k t) following)
followed_landed v kinds first schedule ts before following k x t n r h at run counted risen shows = record {
  small = h.small;
  shows = subst (λ (s : Shared). Shows v (seen (slice_set ts k t) following) s) (sym (goes_on kinds (plain v.code) schedule (replicate n k) first)) shows;
  seen = all_seen kinds (plain v.code) first schedule ts k n x t (cells_of before) (cells_of following) before following r at (record {
    is = run;
    store = h.shows.store;
    stored = shows.store;
    small = h.small;
    risen = risen;
    counted = counted;
  }) h.seen;
}

pub turn_followed : (v : Checked) (kinds : Kinds) (first : Shared) (schedule : List ℕ) (ts : List Task) (before following : Stored) (k : ℕ) (x t : Task) → HaveFollowed v kinds first schedule (seen ts before) → CanTurn v kinds (scheduled kinds (plain v.code) schedule first) k → slice_get ts k ≡ Some x → Lands (standing x) before (standing t) following → HaveFollowed v kinds first (schedule ++ k ∷ []) (seen (slice_set ts k t) following)
turn_followed v kinds first schedule ts before following k x t h can at lands =
    let shared : Shared = scheduled kinds (plain v.code) schedule first in
    let r = run_at v ts before shared k x h.shows at in
    let can_go : CanGo v kinds (in_store (cells_of before) r.0) = subst (λ (c : Store). CanGo v kinds (in_store c r.0)) (sym h.shows.store) (can r.0 r.1) in
    followed_landed v kinds first schedule ts before following k x t 1 r.0 h at r.1 lands.counted
    (λ within. subst (λ (c : Store). HasRisen (standing x) (standing t) (G.seen kinds (plain v.code) 1 (in_store c r.0))) h.shows.store (lands.risen v kinds r.0 h.shows.small h.shows.empty r.2 can_go within))
    (turn_shows v kinds ts before following shared k x t h.shows can at lands)

pub turns_followed : (v : Checked) (kinds : Kinds) (first : Shared) (schedule : List ℕ) (ts : List Task) (before following : Stored) (k : ℕ) (x t : Task) → HaveFollowed v kinds first schedule (seen ts before) → CanFinish v kinds (scheduled kinds (plain v.code) schedule first) k → slice_get ts k ≡ Some x → Goes (standing x) before (standing t) following → (n : ℕ) × HaveFollowed v kinds first (schedule ++ replicate n k) (seen (slice_set ts k t) following)
turns_followed v kinds first schedule ts before following k x t h can at goes =
    let shared : Shared = scheduled kinds (plain v.code) schedule first in
    let r = run_at v ts before shared k x h.shows at in
    let g = turns_gone v kinds ts before following shared k x t r.0 h.shows r.1 r.2 can goes in (
      g.0,
      followed_landed v kinds first schedule ts before following k x t g.0 r.0 h at r.1 goes.counted g.2
          (shows_landed v kinds ts before following shared k x t g.0 r.0 h.shows at r.1 goes.small goes.empty g.1),
    )

-- ---- for the answers of the start

-- a task was made for each of the first starts, and is new
abbrev pub AreNew : Checked → List Start → List Task → Type 0
AreNew v starts ts = (k : ℕ) (b : Start) (t : Task) → slice_get starts k ≡ Some b → slice_get ts k ≡ Some t → IsNew v b (standing t)

pub new_more : (v : Checked) (starts : List Start) (ts : List Task) (b : Start) (t : Task) → slice_get starts (length ts) ≡ Some b → AreNew v starts ts → IsNew v b (standing t) → AreNew v starts (ts ++ t ∷ [])
new_more v starts ts b t at are new k a u is here = elim (at_push ts t k u here) [
  | inl h ↦ are k a u is h
  | inr h ↦ (
      let start : b ≡ a = same_Some b a (sym at ∙ ap (slice_get starts) (sym h.0) ∙ is) in
      subst (λ (z : Start). IsNew v z (standing u)) start (subst (λ (z : Task). IsNew v b (standing z)) (sym h.1) new))
]

-- each of them holds the cells of its start
abbrev pub AreHeld : Checked → Cells → List Start → List Task → Type 0
AreHeld v cs starts ts = (k : ℕ) (b : Start) (t : Task) → slice_get starts k ≡ Some b → slice_get ts k ≡ Some t → HoldsAtStart v cs b t.started

pub held_more : (v : Checked) (cs : Cells) (starts : List Start) (ts : List Task) (b : Start) (t : Task) → slice_get starts (length ts) ≡ Some b → AreHeld v cs starts ts → HoldsAtStart v cs b t.started → AreHeld v cs starts (ts ++ t ∷ [])
held_more v cs starts ts b t at are new k a u is here = elim (at_push ts t k u here) [
  | inl h ↦ are k a u is h
  | inr h ↦ (
      let start : b ≡ a = same_Some b a (sym at ∙ ap (slice_get starts) (sym h.0) ∙ is) in
      subst (λ (z : Start). HoldsAtStart v cs z u.started) start (subst (λ (z : Task). HoldsAtStart v cs b z.started) (sym h.1) new))
]

pub held_seen : (v : Checked) (cs : Cells) (starts : List Start) (ts : List Task) (k : ℕ) (b : Start) (a : Standing) → AreHeld v cs starts ts → slice_get starts k ≡ Some b → slice_get (map standing ts) k ≡ Some a → HoldsAtStart v cs b a.started
held_seen v cs starts ts k b a are at is =
    let t = there (map standing ts) ts k a (map_length ts) is in
    subst (λ (z : Standing). HoldsAtStart v cs b z.started) (was_set ts k t.0 a t.1 is) (are k b t.0 at t.1)

-- new tasks stand where their functions are loaded
pub new_shows : (v : Checked) (starts : List Start) (ts : List Task) (cells : Stored) (first : Store) (shared : Shared) → AreNew v starts ts → length ts ≡ length starts → store_of cells.cells cells.released ≡ first → IsSmall first.cells → cells.pushed ≡ [] → AreStarted v first starts shared → Shows v (seen ts cells) shared
new_shows v starts ts cells first shared are number same small empty h = record {
  store = same ∙ sym h.store;
  small = subst (λ (s : Store). IsSmall s.cells) (sym same) small;
  empty = empty;
  number = map_length ts ∙ number ∙ sym h.number;
  tasks = λ k a r is on.
      let b = there shared.runs starts k r h.number on in
      let t = there (map standing ts) ts k a (map_length ts) is in
      let own : standing t.0 ≡ a = same_Some (standing t.0) a (sym (ap (λ o. option_map standing o) t.1) ∙ sym (slice_get-map standing ts k) ∙ is) in
      subst (λ (z : Standing). StandsAt v z r) own (are k b.0 t.0 b.1 t.1 first r (h.runs k b.0 r b.1 on));
}

-- each of them has seen the state where its function is loaded
abbrev pub AreBegun : Checked → List Start → List Task → Type 0
AreBegun v starts ts = (k : ℕ) (b : Start) (t : Task) → slice_get starts k ≡ Some b → slice_get ts k ≡ Some t → Begins v b (standing t)

pub begun_more : (v : Checked) (starts : List Start) (ts : List Task) (b : Start) (t : Task) → slice_get starts (length ts) ≡ Some b → AreBegun v starts ts → Begins v b (standing t) → AreBegun v starts (ts ++ t ∷ [])
begun_more v starts ts b t at are new k a u is here = elim (at_push ts t k u here) [
  | inl h ↦ are k a u is h
  | inr h ↦ (
      let start : b ≡ a = same_Some b a (sym at ∙ ap (slice_get starts) (sym h.0) ∙ is) in
      subst (λ (z : Start). Begins v z (standing u)) start (subst (λ (z : Task). Begins v b (standing z)) (sym h.1) new))
]

-- new tasks have followed no turn
pub new_followed : (v : Checked) (kinds : Kinds) (starts : List Start) (ts : List Task) (cells : Stored) (first : Store) (shared : Shared) → AreNew v starts ts → AreBegun v starts ts → length ts ≡ length starts → store_of cells.cells cells.released ≡ first → IsSmall first.cells → cells.pushed ≡ [] → AreStarted v first starts shared → HaveFollowed v kinds shared [] (seen ts cells)
new_followed v kinds starts ts cells first shared are begun number same small empty h = record {
  small = subst (λ (s : Store). IsSmall s.cells) (sym h.store) small;
  shows = new_shows v starts ts cells first shared are number same small empty h;
  seen = λ k a is.
      let t = there (map standing ts) ts k a (map_length ts) is in
      let b = there ts starts k t.0 number t.1 in
      let r = there ts shared.runs k t.0 (number ∙ sym h.number) t.1 in
      let own : standing t.0 ≡ a = was_set ts k t.0 a t.1 is in
      let g : HasBegun a r.0 = subst (λ (z : Standing). HasBegun z r.0) own (begun k b.0 t.0 b.1 t.1 first r.0 (h.runs k b.0 r.0 b.1 r.1)) in
      record {
        frames = g.frames ∙ sym (ap frames_in r.1);
        words = g.words ∙ sym (ap words_in r.1);
        freed = λ size some few. g.freed size;
      };
}
