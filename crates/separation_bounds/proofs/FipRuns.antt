-- Fip runs: nothing is released, the stack stays within its number, and with so many free frames it suffices.
use Rattle.std.proofs.Common.{◌≡◌, ℕ, zero, suc, ◌+◌, ◌≤◌, List, [], length, map, Bool, true, false, refl, sym, ap, ◌∙◌, subst, arith}
use Rattle.separation.specs.fip_base.declared.plain.Stack.{Stack}
use Rattle.separation.specs.call_groups.Stacks.{charge, own_frames}
use Rattle.separation.specs.machine_semantics.Cells.{Store}
use Rattle.separation.specs.machine_semantics.States.{State, Next, Went, Entered, Gave, Trapped, TooDeep, Stuck, frames_held, words_of_frame, words_held}
use Rattle.separation.specs.machine_semantics.Steps.{Kinds, next}
use Rattle.separation.specs.machine_semantics.Runs.{Deep, Run, Going, Over, state_of, begun, comes, later, after}
use Rattle.separation.specs.cell_code.Plain.{PlainCode, results}
use Rattle.separation.specs.code_rules.StackNumbers.{IsFip, IsStack, words_at}
use Rattle.separation.specs.code_rules.Breaks.{IsSound}
use Rattle.separation.specs.Codes.{HasLiterals, AreKinds}
use Rattle.separation.specs.Starts.{IsStart}
use Rattle.separation.proofs.Loading.{start_alive, loaded_is}
use Rattle.separation.proofs.Running.{GoodRun, later_good, run_alive, begun_good}
use Rattle.separation_bounds.proofs.Chains.{AreCovered, covered_frames, covered_words, fip_words, sum_first}
use Rattle.separation_bounds.proofs.FipSteps.{AreNumbers, InPlace, StaysInPlace, next_in_place}

-- a run at some moment, from this store
record FipState (c : PlainCode) (own frames weight words : ℕ → ℕ) (n d : ℕ) (first : Store) (s : State) : Type 0 where
  place : InPlace c own frames weight words n d s
  released : s.store.released ≡ first.released

abbrev FipRun : PlainCode → (ℕ → ℕ) → (ℕ → ℕ) → (ℕ → ℕ) → (ℕ → ℕ) → ℕ → ℕ → Store → Run → Type 0
FipRun c own frames weight words n d first (Going s left steps) = FipState c own frames weight words n d first s
FipRun c own frames weight words n d first (Over e s left steps) = FipState c own frames weight words n d first s × (e ≡ Deep → ((f : ℕ) → own f ≡ 1) → frames n ≤ d → ⊥)

comes_fip : (c : PlainCode) (own frames weight words : ℕ → ℕ) (n d : ℕ) (first : Store) (s : State) (left k : ℕ) (x : Next) → FipState c own frames weight words n d first s → StaysInPlace c own frames weight words n d s x → FipRun c own frames weight words n d first (comes s left k x)
comes_fip c own frames weight words n d first s left k (Went t) f g = record { place = g.0; released = g.1 ∙ f.released }
comes_fip c own frames weight words n d first s zero k (Entered t) f g = (f, λ e. cc)
comes_fip c own frames weight words n d first s (suc left) k (Entered t) f g = record { place = g.0; released = g.1 ∙ f.released }
comes_fip c own frames weight words n d first s left k (Gave ws) f g = (f, λ e. cc)
comes_fip c own frames weight words n d first s left k (Trapped kind line col) f g = (f, λ e. cc)
comes_fip c own frames weight words n d first s zero k TooDeep f g = (f, λ e. cc)
comes_fip c own frames weight words n d first s (suc left) k TooDeep f g = (f, λ e. g)
comes_fip c own frames weight words n d first s left k Stuck f g = (f, λ e. cc)

later_fip : (c : PlainCode) (before waits : Kinds) (own frames weight words : ℕ → ℕ) (n d : ℕ) (types kept : List ℕ) (first : Store) (r : Run) → IsSound c → AreKinds c before waits → AreNumbers c own frames weight words → GoodRun c types kept r → FipRun c own frames weight words n d first r → FipRun c own frames weight words n d first (later before c r)
later_fip c before waits own frames weight words n d types kept first (Going s left k) sound kinds m a f = comes_fip c own frames weight words n d first s left (suc k) (next before c s) f (next_in_place c before waits own frames weight words n d types kept s sound kinds m a f.place)
later_fip c before waits own frames weight words n d types kept first (Over e s left k) sound kinds m a f = f

after_fip : (c : PlainCode) (before waits : Kinds) (own frames weight words : ℕ → ℕ) (n d : ℕ) (types kept : List ℕ) (first : Store) (k : ℕ) (r : Run) → IsSound c → HasLiterals c → AreKinds c before waits → AreNumbers c own frames weight words → GoodRun c types kept r → FipRun c own frames weight words n d first r → FipRun c own frames weight words n d first (after before c k r)
after_fip c before waits own frames weight words n d types kept first zero r sound literals kinds m a f = f
after_fip c before waits own frames weight words n d types kept first (suc k) r sound literals kinds m a f = after_fip c before waits own frames weight words n d types kept first k (later before c r) sound literals kinds m (later_good c before waits types kept r sound literals kinds a) (later_fip c before waits own frames weight words n d types kept first r sound kinds m a f)

begun_fip : (c : PlainCode) (own frames weight words : ℕ → ℕ) (n d : ℕ) (first : Store) (s : State) (calls : ℕ) → FipState c own frames weight words n d first s → FipRun c own frames weight words n d first (begun s calls)
begun_fip c own frames weight words n d first s zero f = (f, λ e. cc)
begun_fip c own frames weight words n d first s (suc left) f = f

start_fip : (c : PlainCode) (before waits : Kinds) (own frames weight words : ℕ → ℕ) (n : ℕ) (kept : List ℕ) (s : State) → IsStart c before waits n kept s → IsFip c n → FipState c own frames weight words n s.free s.store s
start_fip c before waits own frames weight words n kept s t fip =
    let is = loaded_is c n t.function s.store t.words t.free s t.is t.loaded in
    let at : s.running.function ≡ n = ap (λ (s : State). s.running.function) is in
    let none : s.waiting ≡ [] = ap (λ (s : State). s.waiting) is in
    record {
      place = record {
        fip = subst (IsFip c) (sym at) fip;
        frames_covered = subst (λ f. AreCovered c own frames (frames n) f s.waiting) (sym at) (subst (AreCovered c own frames (frames n) n) (sym none) (omega arith));
        words_covered = subst (λ f. AreCovered c weight words (words n) f s.waiting) (sym at) (subst (AreCovered c weight words (words n) n) (sym none) (omega arith));
        free = (let z = ap length none in omega arith);
      };
      released = refl;
    }

run_fip : (c : PlainCode) (before waits : Kinds) (own frames weight words : ℕ → ℕ) (n : ℕ) (kept : List ℕ) (s : State) (calls k : ℕ) → IsStart c before waits n kept s → IsFip c n → AreNumbers c own frames weight words → FipRun c own frames weight words n s.free s.store (after before c k (begun s calls))
run_fip c before waits own frames weight words n kept s calls k t fip m = after_fip c before waits own frames weight words n s.free (results c n) kept s.store k (begun s calls) t.sound t.literals t.kinds m (begun_good c (results c n) kept s calls (start_alive c before waits n kept s t)) (begun_fip c own frames weight words n s.free s.store s calls (start_fip c before waits own frames weight words n kept s t fip))

fip_state : (c : PlainCode) (own frames weight words : ℕ → ℕ) (n d : ℕ) (first : Store) (r : Run) → FipRun c own frames weight words n d first r → FipState c own frames weight words n d first (state_of r)
fip_state c own frames weight words n d first (Going s left k) f = f
fip_state c own frames weight words n d first (Over e s left k) f = f.0

numbers_of : (c : PlainCode) (n : ℕ) (stack : Stack) → (i : IsStack c n stack) → AreNumbers c own_frames i.frames (words_at c) i.words
numbers_of c n stack i = record { frames_in = i.are_frames.0.calls_in; words_in = i.are_words.0.calls_in }

-- ---- the stack

pub frames_within : (c : PlainCode) (before waits : Kinds) (n : ℕ) (kept : List ℕ) (s : State) (calls k : ℕ) (stack : Stack) → IsStart c before waits n kept s → IsFip c n → IsStack c n stack → frames_held (state_of (after before c k (begun s calls))) ≤ stack.frames
frames_within c before waits n kept s calls k stack t fip i =
    let r : Run = after before c k (begun s calls) in
    let f = fip_state c own_frames i.frames (words_at c) i.words n s.free s.store r (run_fip c before waits own_frames i.frames (words_at c) i.words n kept s calls k t fip (numbers_of c n stack i)) in
    let a = covered_frames c own_frames i.frames (i.frames n) (state_of r).running.function (state_of r).waiting (λ f. refl) f.place.frames_covered in
    let e = ap (λ (s : Stack). s.frames) i.is in
    omega arith

pub words_within : (c : PlainCode) (before waits : Kinds) (n : ℕ) (kept : List ℕ) (s : State) (calls k : ℕ) (stack : Stack) → IsStart c before waits n kept s → IsFip c n → IsStack c n stack → words_held (state_of (after before c k (begun s calls))) ≤ stack.words
words_within c before waits n kept s calls k stack t fip i =
    let r : Run = after before c k (begun s calls) in
    let u : State = state_of r in
    let m = numbers_of c n stack i in
    let f = fip_state c own_frames i.frames (words_at c) i.words n s.free s.store r (run_fip c before waits own_frames i.frames (words_at c) i.words n kept s calls k t fip m) in
    let alive = run_alive c before waits n kept s calls k t in
    let below = covered_words c u.store alive.lent (results c n) i.words (i.words n) u.running.function u.waiting alive.frozen alive.waiting f.place.words_covered in
    let here = i.are_words.0.base_in u.running.function in
    let own = fip_words c u.running.function alive.function alive.is f.place.fip in
    let first = sum_first (words_of_frame u.running) (map words_of_frame u.waiting) in
    let long = alive.long in
    let wide = alive.wide in
    let e = ap (λ (s : Stack). s.words) i.is in
    omega arith

end_deep : (c : PlainCode) (frames words_own words : ℕ → ℕ) (n d : ℕ) (first : Store) (r : Run) (last : State) (left done : ℕ) → r ≡ Over Deep last left done → FipRun c own_frames frames words_own words n d first r → frames n ≤ d → ⊥
end_deep c frames words_own words n d first r last left done is f = (subst (FipRun c own_frames frames words_own words n d first) is f).1 refl (λ f. refl)

pub never_deep : (c : PlainCode) (before waits : Kinds) (n : ℕ) (kept : List ℕ) (s : State) (calls k : ℕ) (stack : Stack) (last : State) (left done : ℕ) → IsStart c before waits n kept s → IsFip c n → IsStack c n stack → stack.frames ≤ s.free → after before c k (begun s calls) ≡ Over Deep last left done → ⊥
never_deep c before waits n kept s calls k stack last left done t fip i enough is =
    let e = ap (λ (s : Stack). s.frames) i.is in
    end_deep c i.frames (words_at c) i.words n s.free s.store (after before c k (begun s calls)) last left done is (run_fip c before waits own_frames i.frames (words_at c) i.words n kept s calls k t fip (numbers_of c n stack i)) (omega arith)

-- ---- cells

no_numbers : (c : PlainCode) → AreNumbers c (λ f. 0) (λ f. 0) (λ f. 0) (λ f. 0)
no_numbers c = record { frames_in = λ f g k calls. none k; words_in = λ f g k calls. none k }
  where
    none : (k : Bool) → 0 + charge 0 k ≤ 0
    none true = omega arith
    none false = omega arith

pub fip_releases : (c : PlainCode) (before waits : Kinds) (n : ℕ) (kept : List ℕ) (s : State) (calls k : ℕ) → IsStart c before waits n kept s → IsFip c n → (state_of (after before c k (begun s calls))).store.released ≡ s.store.released
fip_releases c before waits n kept s calls k t fip = (fip_state c (λ f. 0) (λ f. 0) (λ f. 0) (λ f. 0) n s.free s.store (after before c k (begun s calls)) (run_fip c before waits (λ f. 0) (λ f. 0) (λ f. 0) (λ f. 0) n kept s calls k t fip (no_numbers c))).released
