-- The stack of a run is that of the run on trees: each frame has a word for each register of its function, and two more.
use Rattle.std.proofs.Common.{◌≡◌, ◌∙◌, ℕ, zero, suc, ◌+◌, max, List, [], ◌∷◌, length, map, Option, Some, None, refl, sym, ap, ap₂, subst, arith}
use Rattle.std.specs.Prelude.{sum}
use Rattle.tree_semantics.specs.fip_language.Gauge.{highest_frames, highest_words}
use Rattle.tree_semantics.specs.fip_language.Store.{Placed}
use Rattle.tree_semantics.specs.fip_language.Values.{Values}
use Rattle.tree_semantics.specs.machine_semantics.Cells.{Store}
use Rattle.separation_bounds.specs.cell_code.Plain.{PlainFunction, PlainCode, function_at, results}
use Rattle.tree_semantics.specs.machine_semantics.Gauges.{seen}
use Rattle.tree_semantics.specs.machine_semantics.Limits.{frame_words}
use Rattle.tree_semantics.specs.machine_semantics.Runs.{Run, End, Going, Over, Ends, state_of, begun, later, after}
use Rattle.tree_semantics.specs.machine_semantics.States.{Frame, State, frames_held, words_of_frame, words_held}
use Rattle.tree_semantics.specs.machine_semantics.Steps.{Kinds}
use Rattle.separation_bounds.specs.separation.Alive.{Frozen, IsAlive, AreAllWaiting}
use Rattle.separation_bounds.specs.separation.Starts.{IsStart}
use Rattle.separation_bounds.proofs.separation.Running.{run_alive}
use Rattle.separation_bounds.proofs.Chains.{sum_first}
use Rattle.separation_bounds.proofs.Falling.{after_later}
use Rattle.tree_semantics.specs.Runs as T
use Rattle.tree_semantics.specs.States as U
use Rattle.tree_refinement.specs.Agreement.{IsSame, AreSameFrames}
use Rattle.tree_refinement.specs.Runs.{BeginsWith, IsSameRun}
use Rattle.tree_refinement.proofs.Running.{run_same}
use Rattle.tree_refinement.proofs.Overs.{seen_enough}

-- ---- by the run on trees

abbrev pub wide : Option PlainFunction → ℕ
wide None = 0
wide (Some f) = f.registers + frame_words

-- the words of a frame of function n
abbrev pub wide_at : PlainCode → ℕ → ℕ
wide_at c n = wide (function_at c n)

abbrev pub wide_all : PlainCode → List U.Frame → ℕ
wide_all c [] = 0
wide_all c (g ∷ gs) = wide_at c g.function + wide_all c gs

abbrev pub tree_frames : PlainCode → U.State → ℕ
tree_frames c t = length t.waiting

abbrev pub tree_words : PlainCode → U.State → ℕ
tree_words c t = wide_at c t.running.function + wide_all c t.waiting

-- the highest of a number over the states of a run on trees
abbrev pub tree_highest : (U.State → ℕ) → PlainCode → ℕ → T.Run → ℕ
tree_highest f code zero (T.Going t left m) = max (f t) 0
tree_highest f code (suc n) (T.Going t left m) = max (f t) (tree_highest f code n (T.later code (T.Going t left m)))
tree_highest f code zero (T.Over a t left m) = max (f t) 0
tree_highest f code (suc n) (T.Over a t left m) = max (f t) 0

-- ---- a state

same_number : (tb : _) (s : Store) (waits : Kinds) (ws : List Frame) (gs : List U.Frame) → AreSameFrames tb s waits ws gs → length ws ≡ length gs
same_number tb s waits [] [] h = refl
same_number tb s waits [] (g ∷ gs) h = absurd h
same_number tb s waits (w ∷ ws) [] h = absurd h
same_number tb s waits (w ∷ ws) (g ∷ gs) h = ap suc (same_number tb s waits ws gs h.1)

waiting_words : (c : PlainCode) (s : Store) (lent : List Placed) (types : List ℕ) (above : ℕ) (waits : Kinds) (ws : List Frame) (fs : List Frozen) (gs : List U.Frame) → AreAllWaiting c s lent types above ws fs → AreSameFrames c.types s waits ws gs → sum (map words_of_frame ws) ≡ wide_all c gs
waiting_words c s lent types above waits [] fs [] a h = refl
waiting_words c s lent types above waits [] fs (g ∷ gs) a h = absurd h
waiting_words c s lent types above waits (w ∷ ws) fs [] a h = absurd h
waiting_words c s lent types above waits (w ∷ ws) [] (g ∷ gs) a h = absurd a
waiting_words c s lent types above waits (w ∷ ws) (f ∷ fs) (g ∷ gs) a h =
    let i = a.0 in
    let long = ap length i.words ∙ i.long ∙ i.wide in
    let own : wide_at c g.function ≡ (i.function).registers + frame_words = ap (wide_at c) (sym h.0.function) ∙ ap wide i.is in
    let rest = waiting_words c s lent types w.function waits ws fs gs a.1 h.1 in
    let all = sum_first (words_of_frame w) (map words_of_frame ws) in
    omega (arith, long, own, rest, all)

state_frames : (c : PlainCode) (before waits : Kinds) (s : State) (t : U.State) → IsSame c.types before waits s t → frames_held s ≡ tree_frames c t
state_frames c before waits s t m = same_number c.types s.store waits s.waiting t.waiting m.waiting

state_words : (c : PlainCode) (before waits : Kinds) (types kept : List ℕ) (s : State) (t : U.State) → IsAlive c types kept s → IsSame c.types before waits s t → words_held s ≡ tree_words c t
state_words c before waits types kept s t a m =
    let long = a.long ∙ a.wide in
    let own : wide_at c t.running.function ≡ (a.function).registers + frame_words = ap (wide_at c) (sym m.running.function) ∙ ap wide a.is in
    let rest = waiting_words c s.store a.lent types s.running.function waits s.waiting a.frozen t.waiting a.waiting m.waiting in
    let all = sum_first (words_of_frame s.running) (map words_of_frame s.waiting) in
    omega (arith, long, own, rest, all)

-- ---- a run

tree_after_later : (code : PlainCode) (k : ℕ) (q : T.Run) → T.after code (suc k) q ≡ T.later code (T.after code k q)
tree_after_later code zero q = refl
tree_after_later code (suc k) q = tree_after_later code k (T.later code q)

module _ (c : PlainCode) (before waits : Kinds) (n : ℕ) (kept : List ℕ) (s : State) (vs : Values) (calls : ℕ) (t : IsStart c before waits n kept s) (b : BeginsWith c n s vs) where
  abbrev moment : ℕ → Run
  moment k = after before c k (begun s calls)

  abbrev tree_moment : ℕ → T.Run
  tree_moment k = T.after c k (T.begun (T.entry n vs s.free) calls)

  -- a moment with what comes after it
  frames_more : (m : ℕ) (r : Run) (q : T.Run) → IsSameRun c.types before waits (results c n) r q → highest_frames (seen before c m (later before c r)) ≡ tree_highest (tree_frames c) c m (T.later c q) → highest_frames (seen before c (suc m) r) ≡ tree_highest (tree_frames c) c (suc m) q
  frames_more m (Going u left j) (T.Going v l k) i rest = ap₂ max (state_frames c before waits u v i.0) rest
  frames_more m (Going u left j) (T.Over a v l k) i rest = absurd i
  frames_more m (Over e u left j) (T.Going v l k) i rest = absurd i
  frames_more m (Over e u left j) (T.Over a v l k) i rest = ap (λ x. max x 0) (state_frames c before waits u v i.1)

  frames_end : (r : Run) (q : T.Run) → IsSameRun c.types before waits (results c n) r q → highest_frames (seen before c 0 r) ≡ tree_highest (tree_frames c) c 0 q
  frames_end (Going u left j) (T.Going v l k) i = ap (λ x. max x 0) (state_frames c before waits u v i.0)
  frames_end (Going u left j) (T.Over a v l k) i = absurd i
  frames_end (Over e u left j) (T.Going v l k) i = absurd i
  frames_end (Over e u left j) (T.Over a v l k) i = ap (λ x. max x 0) (state_frames c before waits u v i.1)

  pub frames_from : (m k : ℕ) → highest_frames (seen before c m (moment k)) ≡ tree_highest (tree_frames c) c m (tree_moment k)
  frames_from zero k = frames_end (moment k) (tree_moment k) (run_same c before waits n kept s vs calls k t b)
  frames_from (suc m) k =
      let rest = subst (λ r. highest_frames (seen before c m r) ≡ tree_highest (tree_frames c) c m (T.later c (tree_moment k))) (after_later before c k (begun s calls))
      (subst (λ q. highest_frames (seen before c m (moment (suc k))) ≡ tree_highest (tree_frames c) c m q) (tree_after_later c k (T.begun (T.entry n vs s.free) calls)) (frames_from m (suc k))) in
      frames_more m (moment k) (tree_moment k) (run_same c before waits n kept s vs calls k t b) rest

  words_more : (m : ℕ) (r : Run) (q : T.Run) → IsAlive c (results c n) kept (state_of r) → IsSameRun c.types before waits (results c n) r q → highest_words (seen before c m (later before c r)) ≡ tree_highest (tree_words c) c m (T.later c q) → highest_words (seen before c (suc m) r) ≡ tree_highest (tree_words c) c (suc m) q
  words_more m (Going u left j) (T.Going v l k) a i rest = ap₂ max (state_words c before waits (results c n) kept u v a i.0) rest
  words_more m (Going u left j) (T.Over x v l k) a i rest = absurd i
  words_more m (Over e u left j) (T.Going v l k) a i rest = absurd i
  words_more m (Over e u left j) (T.Over x v l k) a i rest = ap (λ y. max y 0) (state_words c before waits (results c n) kept u v a i.1)

  words_end : (r : Run) (q : T.Run) → IsAlive c (results c n) kept (state_of r) → IsSameRun c.types before waits (results c n) r q → highest_words (seen before c 0 r) ≡ tree_highest (tree_words c) c 0 q
  words_end (Going u left j) (T.Going v l k) a i = ap (λ y. max y 0) (state_words c before waits (results c n) kept u v a i.0)
  words_end (Going u left j) (T.Over x v l k) a i = absurd i
  words_end (Over e u left j) (T.Going v l k) a i = absurd i
  words_end (Over e u left j) (T.Over x v l k) a i = ap (λ y. max y 0) (state_words c before waits (results c n) kept u v a i.1)

  pub words_from : (m k : ℕ) → highest_words (seen before c m (moment k)) ≡ tree_highest (tree_words c) c m (tree_moment k)
  words_from zero k = words_end (moment k) (tree_moment k) (run_alive c before waits n kept s calls k t) (run_same c before waits n kept s vs calls k t b)
  words_from (suc m) k =
      let rest = subst (λ r. highest_words (seen before c m r) ≡ tree_highest (tree_words c) c m (T.later c (tree_moment k))) (after_later before c k (begun s calls))
      (subst (λ q. highest_words (seen before c m (moment (suc k))) ≡ tree_highest (tree_words c) c m q) (tree_after_later c k (T.begun (T.entry n vs s.free) calls)) (words_from m (suc k))) in
      words_more m (moment k) (tree_moment k) (run_alive c before waits n kept s calls k t) (run_same c before waits n kept s vs calls k t b) rest

-- ---- two runs

module _ (c : PlainCode) (before waits first other : Kinds) (n : ℕ) (kept more : List ℕ) (s u : State) (vs : Values) (calls : ℕ) (e d : End) (last end : State) (left rest steps done : ℕ) (t : IsStart c before waits n kept s) (b : BeginsWith c n s vs) (t' : IsStart c first other n more u) (b' : BeginsWith c n u vs) (free : s.free ≡ u.free) (x : Ends before c s calls e last left steps) (y : Ends first c u calls d end rest done) where
  abbrev both : ℕ
  both = x.enough + y.enough

  pub frames_alike : highest_frames (seen before c x.enough (begun s calls)) ≡ highest_frames (seen first c y.enough (begun u calls))
  frames_alike =
      let turned : y.enough + x.enough ≡ both = omega arith in
      ap highest_frames (sym (seen_enough before c x.enough y.enough (begun s calls) e last left steps x.is))
      ∙ frames_from c before waits n kept s vs calls t b both 0
      ∙ ap (λ f. tree_highest (tree_frames c) c both (T.begun (T.entry n vs f) calls)) free
      ∙ sym (frames_from c first other n more u vs calls t' b' both 0)
      ∙ ap (λ m. highest_frames (seen first c m (begun u calls))) (sym turned)
      ∙ ap highest_frames (seen_enough first c y.enough x.enough (begun u calls) d end rest done y.is)

  pub words_alike : highest_words (seen before c x.enough (begun s calls)) ≡ highest_words (seen first c y.enough (begun u calls))
  words_alike =
      let turned : y.enough + x.enough ≡ both = omega arith in
      ap highest_words (sym (seen_enough before c x.enough y.enough (begun s calls) e last left steps x.is))
      ∙ words_from c before waits n kept s vs calls t b both 0
      ∙ ap (λ f. tree_highest (tree_words c) c both (T.begun (T.entry n vs f) calls)) free
      ∙ sym (words_from c first other n more u vs calls t' b' both 0)
      ∙ ap (λ m. highest_words (seen first c m (begun u calls))) (sym turned)
      ∙ ap highest_words (seen_enough first c y.enough x.enough (begun u calls) d end rest done y.is)
