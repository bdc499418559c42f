-- The most frames and words that a task has seen rise with its turns as those of the states of its run.
use Rattle.std.proofs.Common.{◌≡◌, ◌≢◌, ℕ, zero, suc, ◌≤◌, max, Bool, true, false, List, [], ◌∷◌, refl, sym, ap, subst, ◌∙◌, arith}
use Rattle.fip_language.specs.Gauge.{highest_frames, highest_words}
use Rattle.task_semantics.specs.machine_semantics.Cells.{Store}
use Rattle.code_verify.specs.cell_code.Plain.{PlainCode}
use Rattle.task_semantics.specs.machine_semantics.Gauges.{seen}
use Rattle.task_semantics.specs.machine_semantics.Runs.{End, Run, Going, Over, state_of, comes, later, after}
use Rattle.task_semantics.specs.machine_semantics.States.{State, Next, Went, Entered, Gave, Trapped, TooDeep, Stuck, frames_held, words_held}
use Rattle.task_semantics.specs.machine_semantics.Steps.{Kinds}
use Rattle.task_semantics.specs.Schedules.{in_store}
use Rattle.fip_machine.specs.machine_step.Coming.{Comes}
use Rattle.fip_machine.specs.machine_step.declared.rows.Stepped.{Stepped}
use Rattle.fip_machine.specs.Tasks.{Stand, state_with, IsMeasured, IsRaised}
use Rattle.fip_machine.proofs.machine_cells.machine_semantics.Gauged.{frames_last, words_last}
use Rattle.fip_machine.proofs.machine_cells.machine_semantics.Stays.{over_stays}
use Rattle.fip_tasks.specs.Landing.{IsWithin, HasRisen}
use Rattle.fip_tasks.specs.Turns.{Standing}
use Rattle.fip_tasks.proofs.Called.{IsCalling}

-- ---- the states of runs

pub in_store_frames : (c : Store) (r : Run) → frames_held (state_of (in_store c r)) ≡ frames_held (state_of r)
in_store_frames c (Going s l n) = refl
in_store_frames c (Over e s l n) = refl

pub in_store_words : (c : Store) (r : Run) → words_held (state_of (in_store c r)) ≡ words_held (state_of r)
in_store_words c (Going s l n) = refl
in_store_words c (Over e s l n) = refl

-- so many steps, and then so many
abbrev pub both : ℕ → ℕ → ℕ
both zero m = m
both (suc n) m = suc (both n m)

module _ (kinds : Kinds) (code : PlainCode) where
  -- a run of which no step is seen
  pub now_frames : (r : Run) → highest_frames (seen kinds code zero r) ≡ frames_held (state_of r)
  now_frames (Going s l n) = omega arith
  now_frames (Over e s l n) = omega arith

  pub now_words : (r : Run) → highest_words (seen kinds code zero r) ≡ words_held (state_of r)
  now_words (Going s l n) = omega arith
  now_words (Over e s l n) = omega arith

  -- a run that is over
  pub over_frames : (m : ℕ) (e : End) (s : State) (l n : ℕ) → highest_frames (seen kinds code m (Over e s l n)) ≡ frames_held s
  over_frames zero e s l n = omega arith
  over_frames (suc m) e s l n = omega arith

  pub over_words : (m : ℕ) (e : End) (s : State) (l n : ℕ) → highest_words (seen kinds code m (Over e s l n)) ≡ words_held s
  over_words zero e s l n = omega arith
  over_words (suc m) e s l n = omega arith

  -- one more at the front
  pub more_frames : (m : ℕ) (r : Run) → highest_frames (seen kinds code (suc m) r) ≡ max (frames_held (state_of r)) (highest_frames (seen kinds code m (later kinds code r)))
  more_frames m (Going s l n) = refl
  more_frames m (Over e s l n) = let rest = over_frames m e s l n in omega (arith, rest)

  pub more_words : (m : ℕ) (r : Run) → highest_words (seen kinds code (suc m) r) ≡ max (words_held (state_of r)) (highest_words (seen kinds code m (later kinds code r)))
  more_words m (Going s l n) = refl
  more_words m (Over e s l n) = let rest = over_words m e s l n in omega (arith, rest)

  -- the first state is among them
  pub first_frames : (m : ℕ) (r : Run) → frames_held (state_of r) ≤ highest_frames (seen kinds code m r)
  first_frames zero r = let a = now_frames r in omega (arith, a)
  first_frames (suc m) r = let a = more_frames m r in omega (arith, a)

  pub first_words : (m : ℕ) (r : Run) → words_held (state_of r) ≤ highest_words (seen kinds code m r)
  first_words zero r = let a = now_words r in omega (arith, a)
  first_words (suc m) r = let a = more_words m r in omega (arith, a)

  pub after_both : (n m : ℕ) (r : Run) → after kinds code (both n m) r ≡ after kinds code m (after kinds code n r)
  after_both zero m r = refl
  after_both (suc n) m r = after_both n m (later kinds code r)

  pub both_frames : (n m : ℕ) (r : Run) → highest_frames (seen kinds code (both n m) r) ≡ max (highest_frames (seen kinds code n r)) (highest_frames (seen kinds code m (after kinds code n r)))
  both_frames zero m r = let a = now_frames r in let b = first_frames m r in omega (arith, a, b)
  both_frames (suc n) m r =
      let a = more_frames (both n m) r in
      let b = more_frames n r in
      let rest = both_frames n m (later kinds code r) in
      omega (arith, a, b, rest)

  pub both_words : (n m : ℕ) (r : Run) → highest_words (seen kinds code (both n m) r) ≡ max (highest_words (seen kinds code n r)) (highest_words (seen kinds code m (after kinds code n r)))
  both_words zero m r = let a = now_words r in let b = first_words m r in omega (arith, a, b)
  both_words (suc n) m r =
      let a = more_words (both n m) r in
      let b = more_words n r in
      let rest = both_words n m (later kinds code r) in
      omega (arith, a, b, rest)

  -- ---- turns

  -- a task that goes no step
  pub risen_none : (t : Standing) (c : Store) (r : Run) → IsWithin t r → HasRisen t t (seen kinds code zero (in_store c r))
  risen_none t c r within =
      let a = now_frames (in_store c r) in
      let b = in_store_frames c r in
      let f = now_words (in_store c r) in
      let g = in_store_words c r in
      let h = within.0 in
      let k = within.1 in
      record { frames = omega (arith, a, b, h); words = omega (arith, f, g, k) }

  -- nor one whose run ends where it is
  pub risen_over : (t : Standing) (u : Standing) (s : State) (l n : ℕ) (e : End) (j : ℕ) → u.stack ≡ t.stack → later kinds code (Going s l n) ≡ Over e s 0 j → IsWithin t (Going s l n) → HasRisen t u (seen kinds code 1 (Going s l n))
  risen_over t u s l n e j same is within =
      let a = more_frames zero (Going s l n) in
      let b = ap (λ r. highest_frames (seen kinds code zero r)) is in
      let d = over_frames zero e s 0 j in
      let f = more_words zero (Going s l n) in
      let g = ap (λ r. highest_words (seen kinds code zero r)) is in
      let h = over_words zero e s 0 j in
      let m = ap (λ (q : Stand). q.most_frames) same in
      let o = ap (λ (q : Stand). q.most_words) same in
      let x = within.0 in
      let y = within.1 in
      record { frames = omega (arith, a, b, d, m, x); words = omega (arith, f, g, h, o, y) }

  -- one that is over
  pub risen_ended : (t : Standing) (e : End) (s : State) (l n : ℕ) → IsWithin t (Over e s l n) → HasRisen t t (seen kinds code 1 (Over e s l n))
  risen_ended t e s l n within =
      let a = over_frames 1 e s l n in
      let b = over_words 1 e s l n in
      let x = within.0 in
      let y = within.1 in
      record { frames = omega (arith, a, x); words = omega (arith, b, y) }

  -- a step that was done
  pub risen_step : (t u : Standing) (s : State) (l n : ℕ) (now : State) → IsMeasured u.stack → IsRaised t.stack u.stack → state_of (later kinds code (Going s l n)) ≡ now → frames_held now ≡ u.stack.frames → words_held now ≡ u.stack.words → IsWithin t (Going s l n) → HasRisen t u (seen kinds code 1 (Going s l n))
  risen_step t u s l n now measured raised is fs ws within =
      let r : Run = later kinds code (Going s l n) in
      let a = more_frames zero (Going s l n) in
      let b = now_frames r in
      let d = ap frames_held is in
      let f = more_words zero (Going s l n) in
      let g = now_words r in
      let h = ap words_held is in
      let m = raised.frames in
      let o = raised.words in
      let x = within.0 in
      let y = within.1 in
      record { frames = omega (arith, a, b, d, fs, m, x); words = omega (arith, f, g, h, ws, o, y) }

  -- turns, and then more
  pub risen_both : (a b c : Standing) (n m : ℕ) (r : Run) → HasRisen a b (seen kinds code n r) → HasRisen b c (seen kinds code m (after kinds code n r)) → HasRisen a c (seen kinds code (both n m) r)
  risen_both a b c n m r g h =
      let x = both_frames n m r in
      let y = both_words n m r in
      let gf = g.frames in
      let gw = g.words in
      let hf = h.frames in
      let hw = h.words in
      record { frames = omega (arith, x, gf, hf); words = omega (arith, y, gw, hw) }

  -- after them the most are still those of the run
  pub within_after : (a b : Standing) (n : ℕ) (r : Run) → HasRisen a b (seen kinds code n r) → IsWithin b (after kinds code n r)
  within_after a b n r g =
      let x = frames_last kinds code n r in
      let y = words_last kinds code n r in
      let f = g.frames in
      let w = g.words in
      (omega (arith, x, f), omega (arith, y, w))

-- what a step came to is the state of the run one step later
pub came_state : (s : State) (l k : ℕ) (call : Bool) (x : Next) (r : Stepped) (new : State) (given : List ℕ) → Comes s x r new given → x ≢ Stuck → IsCalling call x → (l ≡ 0 → call ≡ false) → state_of (comes s l k x) ≡ new
came_state s l k call (Went t) r new given h known calls none = sym h.1
came_state s zero k call (Entered t) r new given h known calls none = absurd (let e = none refl in cc)
came_state s (suc l) k call (Entered t) r new given h known calls none = sym h.1
came_state s l k call (Gave ws) r new given h known calls none = sym h.1
came_state s l k call (Trapped kind line col) r new given h known calls none = sym h.1
came_state s zero k call TooDeep r new given h known calls none = absurd (let e = none refl in cc)
came_state s (suc l) k call TooDeep r new given h known calls none = sym h.1
came_state s l k call Stuck r new given h known calls none = absurd (known refl)
