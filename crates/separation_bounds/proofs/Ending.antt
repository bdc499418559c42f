-- A run of sound code ends: it takes at most as many steps for each of its calls as the longest function has
-- instructions, and a run that goes on has taken as many steps as were asked for. And it ends in one way, whichever
-- kinds are given: before each instruction that a run reaches they are the same.
use Rattle.std.proofs.Common.{◌≡◌, ℕ, zero, suc, ◌+◌, ◌*◌, ◌≤◌, List, [], ◌∷◌, length, map, Some, slice_get, refl, sym, ap, ◌∙◌, subst, arith}
use Rattle.std.proofs.lemmas.Option.{none-some, same_Some}
use Rattle.separation.specs.cell_code.Plain.{PlainFunction, PlainCode, results}
use Rattle.separation.specs.machine_semantics.Gauges.{seen_of, states, seen}
use Rattle.separation.specs.machine_semantics.States.{State, Next, Went, Entered, Gave, Trapped, TooDeep, Stuck}
use Rattle.separation.specs.machine_semantics.Steps.{Kinds, act_at, instr_of, next}
use Rattle.separation.specs.machine_semantics.Runs.{Run, End, Going, Over, Ends, begun, comes, later, after}
use Rattle.separation.specs.code_rules.Breaks.{IsSound}
use Rattle.separation.specs.Alive.{IsAlive}
use Rattle.separation.specs.Codes.{HasLiterals, AreKinds}
use Rattle.separation.specs.Starts.{IsStart}
use Rattle.separation.proofs.Loading.{start_alive}
use Rattle.separation.proofs.Running.{GoodRun, later_good, begun_good}
use Rattle.separation_bounds.specs.Lengths.{steps_of, AreAtMost}
use Rattle.separation_bounds.proofs.FewSteps.{run_in_time}

-- ---- a bound on the instructions of each function: those of all functions

abbrev instrs_of_all : List PlainFunction → ℕ
instrs_of_all [] = 0
instrs_of_all (f ∷ fs) = length f.instrs + instrs_of_all fs

in_all : (fs : List PlainFunction) (n : ℕ) (f : PlainFunction) → slice_get fs n ≡ Some f → length f.instrs ≤ instrs_of_all fs
in_all [] n f e = absurd (none-some f e)
in_all (g ∷ fs) zero f e =
    let same : g ≡ f = same_Some g f e in
    let long = subst (λ h. length h.instrs ≤ length g.instrs) same (omega arith) in
    omega arith
in_all (g ∷ fs) (suc n) f e = let long = in_all fs n f e in omega arith

are_at_most : (c : PlainCode) → AreAtMost c (instrs_of_all c.functions)
are_at_most c n f e = in_all c.functions n f e

-- ---- a run that goes on has taken each step

abbrev HasTaken : ℕ → Run → Type 0
HasTaken n (Going s left steps) = steps ≡ n
HasTaken n (Over e s left steps) = Unit {0}

comes_taken : (s : State) (left n : ℕ) (x : Next) → HasTaken n (comes s left n x)
comes_taken s left n (Went t) = refl
comes_taken s zero n (Entered t) = tt
comes_taken s (suc left) n (Entered t) = refl
comes_taken s left n (Gave ws) = tt
comes_taken s left n (Trapped kind line col) = tt
comes_taken s zero n TooDeep = tt
comes_taken s (suc left) n TooDeep = tt
comes_taken s left n Stuck = tt

later_taken : (kinds : Kinds) (code : PlainCode) (n : ℕ) (r : Run) → HasTaken n r → HasTaken (suc n) (later kinds code r)
later_taken kinds code n (Going s left steps) h = subst (λ m. HasTaken (suc m) (comes s left (suc steps) (next kinds code s))) h (comes_taken s left (suc steps) (next kinds code s))
later_taken kinds code n (Over e s left steps) h = tt

after_taken : (kinds : Kinds) (code : PlainCode) (k n : ℕ) (r : Run) → HasTaken n r → HasTaken (k + n) (after kinds code k r)
after_taken kinds code zero n r h = let same : n ≡ zero + n = omega arith in subst (λ m. HasTaken m r) same h
after_taken kinds code (suc k) n r h =
    let same : k + suc n ≡ suc k + n = omega arith in
    subst (λ m. HasTaken m (after kinds code k (later kinds code r))) same (after_taken kinds code k (suc n) (later kinds code r) (later_taken kinds code n r h))

begun_taken : (s : State) (calls : ℕ) → HasTaken 0 (begun s calls)
begun_taken s zero = tt
begun_taken s (suc left) = refl

-- ---- so it ends

-- a run that is over
abbrev IsOver : Run → Type 0
IsOver r = (e : End) × (last : State) × (left : ℕ) × (steps : ℕ) × (r ≡ Over e last left steps)

is_over : (n most : ℕ) (r : Run) → HasTaken n r → steps_of r ≤ most → suc most ≤ n → IsOver r
is_over n most (Going s left steps) h few more = absurd (let z : ⊥ = omega arith in z)
is_over n most (Over e s left steps) h few more = (e, s, left, steps, refl)

pub run_ends : (c : PlainCode) (before waits : Kinds) (n : ℕ) (kept : List ℕ) (s : State) (calls : ℕ) → IsStart c before waits n kept s → (e : End) × (last : State) × (left : ℕ) × (steps : ℕ) × Ends before c s calls e last left steps
run_ends c before waits n kept s calls t =
    let most : ℕ = calls * instrs_of_all c.functions in
    let r : Run = after before c (suc most) (begun s calls) in
    let few = run_in_time c before waits n kept s calls (suc most) (instrs_of_all c.functions) t (are_at_most c) in
    let taken : HasTaken (suc most + 0) r = after_taken before c (suc most) 0 (begun s calls) (begun_taken s calls) in
    let over = is_over (suc most + 0) most r taken few (omega arith) in
    (over.0, over.1, over.2, over.3, record { enough = suc most; is = over.4 })

-- ---- in one way

-- the kinds of a state that a run reaches are known
same_next : (c : PlainCode) (before waits first other : Kinds) (types kept : List ℕ) (s : State) → AreKinds c before waits → AreKinds c first other → IsAlive c types kept s → next before c s ≡ next first c s
same_next c before waits first other types kept s kinds again a =
    ap (λ ks. act_at c ks s (instr_of c s))
    (kinds.known s.running.function s.running.at a.function a.kinds a.is a.known
    ∙ sym (again.known s.running.function s.running.at a.function a.kinds a.is a.known))

same_later : (c : PlainCode) (before waits first other : Kinds) (types kept : List ℕ) (r : Run) → AreKinds c before waits → AreKinds c first other → GoodRun c types kept r → later before c r ≡ later first c r
same_later c before waits first other types kept (Going s left n) kinds again g = ap (comes s left (suc n)) (same_next c before waits first other types kept s kinds again g)
same_later c before waits first other types kept (Over e s left n) kinds again g = refl

same_after : (c : PlainCode) (before waits first other : Kinds) (types kept : List ℕ) (k : ℕ) (r : Run) → IsSound c → HasLiterals c → AreKinds c before waits → AreKinds c first other → GoodRun c types kept r → after before c k r ≡ after first c k r
same_after c before waits first other types kept zero r sound literals kinds again g = refl
same_after c before waits first other types kept (suc k) r sound literals kinds again g =
    same_after c before waits first other types kept k (later before c r) sound literals kinds again (later_good c before waits types kept r sound literals kinds g)
    ∙ ap (after first c k) (same_later c before waits first other types kept r kinds again g)

-- a run that is over stays so
over_stays : (kinds : Kinds) (code : PlainCode) (k : ℕ) (e : End) (last : State) (left steps : ℕ) → after kinds code k (Over e last left steps) ≡ Over e last left steps
over_stays kinds code zero e last left steps = refl
over_stays kinds code (suc k) e last left steps = over_stays kinds code k e last left steps

after_more : (kinds : Kinds) (code : PlainCode) (k m : ℕ) (r : Run) → after kinds code (k + m) r ≡ after kinds code m (after kinds code k r)
after_more kinds code zero m r = let same : zero + m ≡ m = omega arith in ap (λ j. after kinds code j r) same
after_more kinds code (suc k) m r =
    let same : suc k + m ≡ suc (k + m) = omega arith in
    ap (λ j. after kinds code j r) same ∙ after_more kinds code k m (later kinds code r)

-- after k steps and after m it is over, so after both
both_over : (kinds : Kinds) (code : PlainCode) (k m : ℕ) (r p q : Run) → IsOver p → IsOver q → after kinds code k r ≡ p → after kinds code m r ≡ q → p ≡ q
both_over kinds code k m r p q x y a b =
    let p_is : p ≡ Over x.0 x.1 x.2 x.3 = x.4 in
    let q_is : q ≡ Over y.0 y.1 y.2 y.3 = y.4 in
    let early : after kinds code (k + m) r ≡ p = after_more kinds code k m r ∙ (ap (after kinds code m) (a ∙ p_is) ∙ (over_stays kinds code m x.0 x.1 x.2 x.3 ∙ sym p_is)) in
    let late : after kinds code (m + k) r ≡ q = after_more kinds code m k r ∙ (ap (after kinds code k) (b ∙ q_is) ∙ (over_stays kinds code k y.0 y.1 y.2 y.3 ∙ sym q_is)) in
    let turned : k + m ≡ m + k = omega arith in
    sym early ∙ (ap (λ j. after kinds code j r) turned ∙ late)

pub ends_once : (c : PlainCode) (before waits first other : Kinds) (n : ℕ) (kept : List ℕ) (s : State) (calls : ℕ) (e d : End) (last end : State) (left more steps done : ℕ) → IsStart c before waits n kept s → AreKinds c first other → Ends before c s calls e last left steps → Ends first c s calls d end more done → Over e last left steps ≡ Over d end more done
ends_once c before waits first other n kept s calls e d last end left more steps done t again x y =
    let good = begun_good c (results c n) kept s calls (start_alive c before waits n kept s t) in
    let same = same_after c before waits first other (results c n) kept x.enough (begun s calls) t.sound t.literals t.kinds again good in
    both_over first c x.enough y.enough (begun s calls) (Over e last left steps) (Over d end more done) (e, last, left, steps, refl) (d, end, more, done, refl) (sym same ∙ x.is) y.is

-- ---- and as much is seen of it

same_states : (c : PlainCode) (before waits first other : Kinds) (types kept : List ℕ) (k : ℕ) (r : Run) → IsSound c → HasLiterals c → AreKinds c before waits → AreKinds c first other → GoodRun c types kept r → states before c k r ≡ states first c k r
same_states c before waits first other types kept zero (Going s left n) sound literals kinds again g = refl
same_states c before waits first other types kept zero (Over e s left n) sound literals kinds again g = refl
same_states c before waits first other types kept (suc k) (Going s left n) sound literals kinds again g =
    ap (λ ss. s ∷ ss) (
    same_states c before waits first other types kept k (later before c (Going s left n)) sound literals kinds again (later_good c before waits types kept (Going s left n) sound literals kinds g)
    ∙ ap (states first c k) (same_later c before waits first other types kept (Going s left n) kinds again g))
same_states c before waits first other types kept (suc k) (Over e s left n) sound literals kinds again g = refl

pub seen_once : (c : PlainCode) (before waits first other : Kinds) (n : ℕ) (kept : List ℕ) (s : State) (calls steps : ℕ) → IsStart c before waits n kept s → AreKinds c first other → seen before c steps (begun s calls) ≡ seen first c steps (begun s calls)
seen_once c before waits first other n kept s calls steps t again =
    ap (λ ss. map seen_of ss) (same_states c before waits first other (results c n) kept steps (begun s calls) t.sound t.literals t.kinds again (begun_good c (results c n) kept s calls (start_alive c before waits n kept s t)))
