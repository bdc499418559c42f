-- A task that runs to its end stands where the written run comes to its end.
-- The idea: how many steps were done before changes nothing of a run, so the run from here on is one that begins here.
use Rattle.std.proofs.Common.{◌≡◌, ◌≢◌, ℕ, zero, suc, List, [], ◌∷◌, Some, None, refl, sym, ap, subst, ◌∙◌, arith}
use Rattle.cell_store.specs.Made.{Stored}
use Rattle.code_verify.specs.Checked.{Checked}
use Rattle.code_verify.specs.cell_code.Plain.{PlainCode, plain}
use Rattle.fip_language.specs.Gauge.{Seen}
use Rattle.task_semantics.specs.machine_semantics.Gauges.{seen_of, seen}
use Rattle.task_semantics.specs.machine_semantics.Runs.{Value, Trap, Out, Deep, Unsound, Run, Going, Over, comes, later, after}
use Rattle.task_semantics.specs.machine_semantics.States.{State, Next, Went, Entered, Gave, Trapped, TooDeep, Stuck, frames_held, words_held}
use Rattle.task_semantics.specs.machine_semantics.Steps.{Kinds, next}
use Rattle.task_semantics.specs.Schedules.{in_store}
use Rattle.fip_machine.specs.Along.{Origin, at_step, state_in, IsAlong, IsRight, HasMost, HasRun, UnlessStuck, stored}
use Rattle.fip_machine.specs.Ending.{KnowsRun, IsOver}
use Rattle.fip_machine.specs.Tasks.{state_with, IsMeasured}
use Rattle.fip_machine.specs.declared.machine.Ended.{Ended}
use Rattle.fip_machine.specs.machine_cells.Small.{IsSmall}
use Rattle.fip_tasks.specs.Gauged.{HasCounted}
use Rattle.fip_tasks.specs.Landing.{IsLanded, IsWithin, HasRisen, Goes, cells_of}
use Rattle.fip_tasks.specs.Shown.{IsAt, StandsAt, CanGo}
use Rattle.fip_tasks.specs.Turns.{Standing}
use Rattle.fip_tasks.proofs.Landings.{at_cells, not_ended}
use Rattle.fip_tasks.proofs.Risen.{now_frames, now_words}

-- ---- the number of the steps before

-- the same run, after so many steps
abbrev pub Alike : Run → Run → Type 0
Alike (Going s l n) q = (k : ℕ) × (q ≡ Going s l k)
Alike (Over e s l n) q = (k : ℕ) × (q ≡ Over e s l k)

module _ (kinds : Kinds) (code : PlainCode) where
  comes_alike : (s : State) (l n k : ℕ) (x : Next) → Alike (comes s l n x) (comes s l k x)
  comes_alike s l n k (Went t) = (k, refl)
  comes_alike s zero n k (Entered t) = (k, refl)
  comes_alike s (suc l) n k (Entered t) = (k, refl)
  comes_alike s l n k (Gave ws) = (k, refl)
  comes_alike s l n k (Trapped kind line col) = (k, refl)
  comes_alike s zero n k TooDeep = (k, refl)
  comes_alike s (suc l) n k TooDeep = (k, refl)
  comes_alike s l n k Stuck = (k, refl)

  later_alike : (r q : Run) → Alike r q → Alike (later kinds code r) (later kinds code q)
  later_alike (Going s l n) q h = subst (λ (m : Run). Alike (later kinds code (Going s l n)) (later kinds code m)) (sym h.1) (comes_alike s l (suc n) (suc h.0) (next kinds code s))
  later_alike (Over e s l n) q h = subst (λ (m : Run). Alike (Over e s l n) (later kinds code m)) (sym h.1) (h.0, refl)

  after_alike : (m : ℕ) (r q : Run) → Alike r q → Alike (after kinds code m r) (after kinds code m q)
  after_alike zero r q h = h
  after_alike (suc m) r q h = after_alike m (later kinds code r) (later kinds code q) (later_alike r q h)

  seen_alike : (m : ℕ) (r q : Run) → Alike r q → seen kinds code m r ≡ seen kinds code m q
  seen_alike zero (Going s l n) q h = subst (λ (p : Run). seen kinds code zero (Going s l n) ≡ seen kinds code zero p) (sym h.1) refl
  seen_alike zero (Over e s l n) q h = subst (λ (p : Run). seen kinds code zero (Over e s l n) ≡ seen kinds code zero p) (sym h.1) refl
  seen_alike (suc m) (Going s l n) q h =
      let rest = seen_alike m (later kinds code (Going s l n)) (later kinds code (Going s l h.0)) (comes_alike s l (suc n) (suc h.0) (next kinds code s)) in
      subst (λ (p : Run). seen kinds code (suc m) (Going s l n) ≡ seen kinds code (suc m) p) (sym h.1) (ap (λ (ss : List Seen). seen_of s ∷ ss) rest)
  seen_alike (suc m) (Over e s l n) q h = subst (λ (p : Run). seen kinds code (suc m) (Over e s l n) ≡ seen kinds code (suc m) p) (sym h.1) refl

-- ---- a run that can go on at each of its moments

comes_right : (s : State) (l n : ℕ) (x : Next) → x ≢ Stuck → IsRight (comes s l n x)
comes_right s l n (Went t) h = tt
comes_right s zero n (Entered t) h = tt
comes_right s (suc l) n (Entered t) h = tt
comes_right s l n (Gave ws) h = tt
comes_right s l n (Trapped kind line col) h = tt
comes_right s zero n TooDeep h = tt
comes_right s (suc l) n TooDeep h = tt
comes_right s l n Stuck h = absurd (h refl)

later_right : (v : Checked) (kinds : Kinds) (r : Run) → IsRight r → CanGo v kinds r → IsRight (later kinds (plain v.code) r)
later_right v kinds (Going s l n) h can = comes_right s l (suc n) (next kinds (plain v.code) s) can.1
later_right v kinds (Over e s l n) h can = h

after_right : (v : Checked) (kinds : Kinds) (m : ℕ) (r : Run) → IsRight r → ((n : ℕ) → CanGo v kinds (after kinds (plain v.code) n r)) → IsRight (after kinds (plain v.code) m r)
after_right v kinds zero r h can = h
after_right v kinds (suc m) r h can = after_right v kinds m (later kinds (plain v.code) r) (later_right v kinds r h (can 0)) (λ n. can (suc n))

right_alike : (r q : Run) → Alike r q → IsRight q → IsRight r
right_alike (Going s l n) q h right = tt
right_alike (Over (Value ws) s l n) q h right = tt
right_alike (Over (Trap kind line col) s l n) q h right = tt
right_alike (Over Out s l n) q h right = tt
right_alike (Over Deep s l n) q h right = tt
right_alike (Over Unsound s l n) q h right = subst IsRight h.1 right

unless : (P : Type 0) (r : Run) → IsRight r → UnlessStuck r P → P
unless P (Going s l n) h p = p
unless P (Over (Value ws) s l n) h p = p
unless P (Over (Trap kind line col) s l n) h p = p
unless P (Over Out s l n) h p = p
unless P (Over Deep s l n) h p = p
unless P (Over Unsound s l n) h p = absurd h

-- ---- its end

landed_over : (v : Checked) (new : Standing) (e : Ended) (t : State) (q r : Run) → Alike q r → IsRight q → new.ended ≡ Some e → IsOver q e t new.stack.given → IsLanded v new t.store r
landed_over v new e t (Going s l n) r a right ended over = absurd over
landed_over v new e t (Over (Value ws) s l n) r a right ended over = subst (λ (m : Run). IsLanded v new t.store m) (sym a.1) (record {
  stands = (ended ∙ ap (λ (x : Ended). Some x) over.0, over.2);
  cells = sym (ap (λ (q : State). q.store) over.1);
})
landed_over v new e t (Over (Trap kind line col) s l n) r a right ended over = subst (λ (m : Run). IsLanded v new t.store m) (sym a.1) (record {
  stands = ended ∙ ap (λ (x : Ended). Some x) over.0;
  cells = sym (ap (λ (q : State). q.store) over.1);
})
landed_over v new e t (Over Out s l n) r a right ended over = subst (λ (m : Run). IsLanded v new t.store m) (sym a.1) (record {
  stands = ended ∙ ap (λ (x : Ended). Some x) over.0;
  cells = sym (ap (λ (q : State). q.store) over.1);
})
landed_over v new e t (Over Deep s l n) r a right ended over = subst (λ (m : Run). IsLanded v new t.store m) (sym a.1) (record {
  stands = ended ∙ ap (λ (x : Ended). Some x) over.0;
  cells = sym (ap (λ (q : State). q.store) over.1);
})
landed_over v new e t (Over Unsound s l n) r a right ended over = absurd right

-- the cells, by their parts
abbrev pub in_parts : Stored → Stored
in_parts s = stored s.cells s.released s.pushed

-- the run that begins where the task stands over these cells
abbrev origin_of : Checked → Kinds → Standing → Stored → State → ℕ → Origin
origin_of v kinds old before s l = record {
  code = v;
  kinds = kinds;
  lent = s.lent;
  first = record s { store = cells_of before };
  calls = suc l;
  most_frames = old.stack.most_frames;
  most_words = old.stack.most_words;
}

knows : (v : Checked) (kinds : Kinds) (here : State) (l n : ℕ) → ((m : ℕ) → CanGo v kinds (after kinds (plain v.code) m (Going here l n))) → KnowsRun v kinds here (suc l)
knows v kinds here l n can m left steps q e =
    let a : Alike (Going q left steps) (after kinds (plain v.code) m (Going here l n)) = subst (λ (p : Run). Alike p (after kinds (plain v.code) m (Going here l n))) e (after_alike kinds (plain v.code) m (Going here l 0) (Going here l n) (n, refl)) in
    let c : CanGo v kinds (Going q left a.0) = subst (λ (p : Run). CanGo v kinds p) a.1 (can m) in
    c.0

along : (v : Checked) (kinds : Kinds) (old : Standing) (before : Stored) (s : State) (l n : ℕ) → IsMeasured old.stack → IsSmall before.cells → before.pushed ≡ [] → IsAt v old s l → ((m : ℕ) → CanGo v kinds (after kinds (plain v.code) m (Going (record s { store = cells_of before }) l n))) → IsAlong (origin_of v kinds old before s l) old.stack (in_parts before) old.left
along v kinds old before s l n measured few top at can =
    let here : State = record s { store = cells_of before } in
    let state : state_with old.stack s.lent (cells_of before) ≡ here = at_cells old.stack s (cells_of before) at.state in
    let a = now_frames kinds (plain v.code) (Going here l 0) in
    let b = now_words kinds (plain v.code) (Going here l 0) in
    let f = ap frames_held state in
    let w = ap words_held state in
    let mf = measured.frames in
    let mw = measured.words in
    let gf = measured.most_frames in
    let gw = measured.most_words in
    record {
      code = at.code;
      knows = knows v kinds here l n can;
      going = at.going;
      small = few;
      empty = top;
      steps = 0;
      run = (state, at.left);
      most = record { frames = omega (arith, a, f, mf, gf); words = omega (arith, b, w, mw, gw) };
      measured = measured;
    }

-- what is known of a run to the end
abbrev pub Ran : Standing → Stored → Ended → Standing → Stored → Type 0
Ran old before e new following = (o : Origin) → IsAlong o old.stack (in_parts before) old.left → HasRun o e new.stack (in_parts following)

pub goes_over : (old new : Standing) (before following : Stored) (e : Ended) → old.ended ≡ None → IsMeasured old.stack → new.ended ≡ Some e → (IsSmall before.cells → IsSmall following.cells) → (before.pushed ≡ [] → following.pushed ≡ []) → HasCounted old (cells_of before) new (cells_of following) → Ran old before e new following → Goes old before new following
goes_over old new before following e on measured ended small empty counted ran = record {
  small = small;
  empty = empty;
  counted = counted;
  turns = by;
}
  where
    by : (v : Checked) (kinds : Kinds) (r : Run) → IsSmall before.cells → before.pushed ≡ [] → StandsAt v old r → ((n : ℕ) → CanGo v kinds (after kinds (plain v.code) n (in_store (cells_of before) r))) → (n : ℕ) × IsLanded v new (cells_of following) (after kinds (plain v.code) n (in_store (cells_of before) r)) × (IsWithin old r → HasRisen old new (seen kinds (plain v.code) n (in_store (cells_of before) r)))
    by v kinds (Over f s l n) few top at can = not_ended old f at on
    by v kinds (Going s l n) few top at can =
        let here : State = record s { store = cells_of before } in
        let o : Origin = origin_of v kinds old before s l in
        let h = ran o (along v kinds old before s l n measured few top at can) in
        let same : Alike (at_step o h.0) (after kinds (plain v.code) h.0 (Going here l n)) = after_alike kinds (plain v.code) h.0 (Going here l 0) (Going here l n) (n, refl) in
        let right : IsRight (at_step o h.0) = right_alike (at_step o h.0) (after kinds (plain v.code) h.0 (Going here l n)) same (after_right v kinds h.0 (Going here l n) tt can) in
        let most : HasMost o h.0 new.stack = unless (HasMost o h.0 new.stack) (at_step o h.0) right h.2 in
        let rises : HasRisen old new (seen kinds (plain v.code) h.0 (Going here l 0)) = record { frames = most.frames; words = most.words } in (
          h.0,
          landed_over v new e (state_in o new.stack (in_parts following)) (at_step o h.0) (after kinds (plain v.code) h.0 (Going here l n)) same right ended h.1,
          λ within. subst (λ (ss : List Seen). HasRisen old new ss) (seen_alike kinds (plain v.code) h.0 (Going here l 0) (Going here l n) (n, refl)) rises,
        )
