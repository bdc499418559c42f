-- A run with so many calls takes at most so many times the steps of the longest function.
-- The idea: what is left of all frames, each of which goes forward, with the calls that are left.
use Rattle.std.proofs.Common.{◌≡◌, ℕ, zero, suc, ◌+◌, ◌-◌, ◌*◌, ◌<◌, ◌≤◌, true, List, [], ◌∷◌, Option, Some, None, refl, sym, ap, ap₂, subst, arith}
use Rattle.std.specs.Prelude.{option_and_then}
use Rattle.separation.specs.fip_language.declared.TrapKind.{TrapKind}
use Rattle.separation.specs.cell_code.declared.code.Instr.{Instr}
use Rattle.separation.specs.cell_code.declared.code.Instr.TheVariants as I
use Rattle.separation.specs.cell_code.declared.kind.Kind.{Kind}
use Rattle.separation.specs.cell_code.Plain.{PlainFunction, PlainCode, function_at, results}
use Rattle.separation.specs.machine_semantics.Cells.{Store, changed_by}
use Rattle.separation.specs.machine_semantics.Rows as D
use Rattle.separation.specs.machine_semantics.States.{Frame, State, Next, Went, Entered, Gave, Trapped, TooDeep, Stuck}
use Rattle.separation.specs.machine_semantics.Steps.{Kinds, went, went_with, called, called_with, replaced, returned, resumed, trapped, act, act_at, next, instr_of, kinds_of}
use Rattle.separation.specs.machine_semantics.Steps as T
use Rattle.separation.specs.machine_semantics.Runs.{Run, Going, Over, begun, comes, later, after}
use Rattle.separation.specs.code_rules.Ranges.{in_range}
use Rattle.separation.specs.code_rules.Breaks.{IsSound}
use Rattle.separation.proofs.separation_kinds.Basics.{get_within}
use Rattle.separation.specs.Codes.{HasLiterals, AreKinds}
use Rattle.separation.specs.Alive.{IsAlive}
use Rattle.separation.specs.Starts.{IsStart}
use Rattle.separation.proofs.Sound.{ranged}
use Rattle.separation.proofs.Returning.{run_instr_at}
use Rattle.separation.proofs.Loading.{start_alive, loaded_is}
use Rattle.separation.proofs.Running.{GoodRun, later_good, begun_good}
use Rattle.separation_bounds.specs.Lengths.{steps_of, AreAtMost}
use Rattle.separation_bounds.proofs.RowFacts.{GoesForward, forward}

-- what is left of the frames that wait, and of all frames
abbrev left_below : ℕ → List Frame → ℕ
left_below most [] = 0
left_below most (w ∷ ws) = (most - (w.at + 1)) + left_below most ws

abbrev left_of : ℕ → State → ℕ
left_of most s = (most - s.running.at) + left_below most s.waiting

-- what comes after a state
abbrev Shrinks : ℕ → State → Next → Type 0
Shrinks most s (Went t) = left_of most t < left_of most s
Shrinks most s (Entered t) = left_of most t < left_of most s + most
Shrinks most s (Gave ws) = Unit {0}
Shrinks most s (Trapped kind line col) = Unit {0}
Shrinks most s TooDeep = Unit {0}
Shrinks most s Stuck = Unit {0}

with_shrinks : (most : ℕ) (s : State) (d : D.Done) (o : Option Store) → s.running.at < most → s.running.at < d.at → Shrinks most s (went_with s d o)
with_shrinks most s d None h f = tt
with_shrinks most s d (Some store) h f = omega arith

went_shrinks : (most : ℕ) (s : State) (o : Option D.Done) → s.running.at < most → GoesForward s o → Shrinks most s (went s o)
went_shrinks most s None h f = tt
went_shrinks most s (Some d) h f = with_shrinks most s d (changed_by d.changes s.store) h f

trapped_shrinks : (most : ℕ) (s : State) (line col : ℕ) (t : Option TrapKind) (o : Option D.Done) → s.running.at < most → GoesForward s o → Shrinks most s (trapped s line col t o)
trapped_shrinks most s line col None o h f = went_shrinks most s o h f
trapped_shrinks most s line col (Some kind) o h f = tt

called_with_shrinks : (most : ℕ) (s : State) (g : ℕ) (f : PlainFunction) (free : ℕ) (vs : List ℕ) → s.running.at < most → Shrinks most s (called_with s g f free vs)
called_with_shrinks most s g f zero vs h = tt
called_with_shrinks most s g f (suc free) vs h = omega arith

called_shrinks : (most : ℕ) (s : State) (g : ℕ) (o : Option PlainFunction) (vs : Option (List ℕ)) → s.running.at < most → Shrinks most s (called s g o vs)
called_shrinks most s g None vs h = tt
called_shrinks most s g (Some f) None h = tt
called_shrinks most s g (Some f) (Some vs) h = called_with_shrinks most s g f s.free vs h

replaced_shrinks : (most : ℕ) (s : State) (g : ℕ) (o : Option PlainFunction) (vs : Option (List ℕ)) → s.running.at < most → Shrinks most s (replaced s g o vs)
replaced_shrinks most s g None vs h = tt
replaced_shrinks most s g (Some f) None h = tt
replaced_shrinks most s g (Some f) (Some vs) h = omega arith

resumed_shrinks : (most : ℕ) (s : State) (w : Frame) (ws : List Frame) (o : Option (List ℕ)) → s.running.at < most → s.waiting ≡ w ∷ ws → Shrinks most s (resumed s w ws o)
resumed_shrinks most s w ws None h e = tt
resumed_shrinks most s w ws (Some vs) h e = let z = ap (left_below most) e in omega arith

returned_shrinks : (most : ℕ) (c : PlainCode) (s : State) (ws : List Frame) (o : Option (List ℕ)) → s.running.at < most → s.waiting ≡ ws → Shrinks most s (returned c s ws o)
returned_shrinks most c s ws None h e = tt
returned_shrinks most c s [] (Some vs) h e = tt
returned_shrinks most c s (w ∷ ws) (Some vs) h e = resumed_shrinks most s w ws (option_and_then (λ ds. D.write_all w.words ds vs) (T.destinations c w)) h e

act_shrinks : (most : ℕ) (c : PlainCode) (f : PlainFunction) (ks : List Kind) (s : State) (x : Instr) → s.running.at < most → in_range c f s.running.at x ≡ true → Shrinks most s (act c ks s x)
act_shrinks most c f ks s (I.Const d v) h e = went_shrinks most s (D.done c.types ks s (I.Const d v)) h (forward c f ks s (I.Const d v) e)
act_shrinks most c f ks s (I.Atom d t k) h e = went_shrinks most s (D.done c.types ks s (I.Atom d t k)) h (forward c f ks s (I.Atom d t k) e)
act_shrinks most c f ks s (I.Move d r) h e = went_shrinks most s (D.done c.types ks s (I.Move d r)) h (forward c f ks s (I.Move d r) e)
act_shrinks most c f ks s (I.Arith d o x y line col) h e = trapped_shrinks most s line col (D.trap (D.operated s o x y)) (D.done c.types ks s (I.Arith d o x y line col)) h (forward c f ks s (I.Arith d o x y line col) e)
act_shrinks most c f ks s (I.Test r k target) h e = went_shrinks most s (D.done c.types ks s (I.Test r k target)) h (forward c f ks s (I.Test r k target) e)
act_shrinks most c f ks s (I.TestInt r v target) h e = went_shrinks most s (D.done c.types ks s (I.TestInt r v target)) h (forward c f ks s (I.TestInt r v target) e)
act_shrinks most c f ks s (I.Peek d r i) h e = went_shrinks most s (D.done c.types ks s (I.Peek d r i)) h (forward c f ks s (I.Peek d r i) e)
act_shrinks most c f ks s (I.Take r ds) h e = went_shrinks most s (D.done c.types ks s (I.Take r ds)) h (forward c f ks s (I.Take r ds) e)
act_shrinks most c f ks s (I.Put d t k rs) h e = went_shrinks most s (D.done c.types ks s (I.Put d t k rs)) h (forward c f ks s (I.Put d t k rs) e)
act_shrinks most c f ks s (I.Drop r) h e = went_shrinks most s (D.done c.types ks s (I.Drop r)) h (forward c f ks s (I.Drop r) e)
act_shrinks most c f ks s (I.Free r) h e = went_shrinks most s (D.done c.types ks s (I.Free r)) h (forward c f ks s (I.Free r) e)
act_shrinks most c f ks s (I.Call g rs ds) h e = called_shrinks most s g (function_at c g) (D.read_all s.running.words rs) h
act_shrinks most c f ks s (I.Tail g rs) h e = replaced_shrinks most s g (function_at c g) (D.read_all s.running.words rs) h
act_shrinks most c f ks s (I.Ret rs) h e = returned_shrinks most c s s.waiting (D.read_all s.running.words rs) h refl
act_shrinks most c f ks s (I.Jump target) h e = went_shrinks most s (D.done c.types ks s (I.Jump target)) h (forward c f ks s (I.Jump target) e)

within : (most : ℕ) (c : PlainCode) (types kept : List ℕ) (s : State) → AreAtMost c most → IsAlive c types kept s → s.running.at < most
within most c types kept s few a =
    let x = few s.running.function a.function a.is in
    let y = get_within a.function.instrs s.running.at a.instr a.is_instr in
    omega arith

next_shrinks : (most : ℕ) (c : PlainCode) (before waits : Kinds) (types kept : List ℕ) (s : State) → AreAtMost c most → IsSound c → AreKinds c before waits → IsAlive c types kept s → Shrinks most s (next before c s)
next_shrinks most c before waits types kept s few sound kinds a =
    let instr : instr_of c s ≡ Some a.instr = run_instr_at c s.running.function s.running.at a.function a.instr a.is a.is_instr in
    let known : kinds_of before s ≡ a.kinds = kinds.known s.running.function s.running.at a.function a.kinds a.is a.known in
    subst (Shrinks most s) (sym (ap₂ (λ ks x. act_at c ks s x) known instr))
    (act_shrinks most c a.function a.kinds s a.instr (within most c types kept s few a) (ranged c s.running.function s.running.at a.function a.instr sound a.is a.is_instr))

-- a run of so many calls at some moment
abbrev InTime : ℕ → ℕ → Run → Type 0
InTime most calls (Going s left n) = n + (left_of most s + left * most) ≤ calls * most
InTime most calls (Over e s left n) = n + left * most ≤ calls * most

comes_in_time : (most calls : ℕ) (s : State) (left n : ℕ) (x : Next) → s.running.at < most → n + (left_of most s + left * most) ≤ calls * most → Shrinks most s x → InTime most calls (comes s left (suc n) x)
comes_in_time most calls s left n (Went t) h i g = omega arith
comes_in_time most calls s zero n (Entered t) h i g = omega arith
comes_in_time most calls s (suc left) n (Entered t) h i g = let z : suc left * most ≡ left * most + most = grind arith in omega arith
comes_in_time most calls s left n (Gave ws) h i g = omega arith
comes_in_time most calls s left n (Trapped kind line col) h i g = omega arith
comes_in_time most calls s zero n TooDeep h i g = omega arith
comes_in_time most calls s (suc left) n TooDeep h i g = let z : suc left * most ≡ left * most + most = grind arith in omega arith
comes_in_time most calls s left n Stuck h i g = omega arith

later_in_time : (most calls : ℕ) (c : PlainCode) (before waits : Kinds) (types kept : List ℕ) (r : Run) → AreAtMost c most → IsSound c → AreKinds c before waits → GoodRun c types kept r → InTime most calls r → InTime most calls (later before c r)
later_in_time most calls c before waits types kept (Going s left n) few sound kinds a i = comes_in_time most calls s left n (next before c s) (within most c types kept s few a) i (next_shrinks most c before waits types kept s few sound kinds a)
later_in_time most calls c before waits types kept (Over e s left n) few sound kinds a i = i

after_in_time : (most calls : ℕ) (c : PlainCode) (before waits : Kinds) (types kept : List ℕ) (k : ℕ) (r : Run) → AreAtMost c most → IsSound c → HasLiterals c → AreKinds c before waits → GoodRun c types kept r → InTime most calls r → InTime most calls (after before c k r)
after_in_time most calls c before waits types kept zero r few sound literals kinds a i = i
after_in_time most calls c before waits types kept (suc k) r few sound literals kinds a i = after_in_time most calls c before waits types kept k (later before c r) few sound literals kinds (later_good c before waits types kept r sound literals kinds a) (later_in_time most calls c before waits types kept r few sound kinds a i)

begun_in_time : (most calls : ℕ) (s : State) → s.waiting ≡ [] → s.running.at ≡ 0 → InTime most calls (begun s calls)
begun_in_time most zero s none at = omega arith
begun_in_time most (suc left) s none at =
    let z : suc left * most ≡ left * most + most = grind arith in
    let e = ap (left_below most) none in
    omega arith

few_steps : (most calls : ℕ) (r : Run) → InTime most calls r → steps_of r ≤ calls * most
few_steps most calls (Going s left n) i = omega arith
few_steps most calls (Over e s left n) i = omega arith

pub run_in_time : (c : PlainCode) (before waits : Kinds) (n : ℕ) (kept : List ℕ) (s : State) (calls k most : ℕ) → IsStart c before waits n kept s → AreAtMost c most → steps_of (after before c k (begun s calls)) ≤ calls * most
run_in_time c before waits n kept s calls k most t few =
    let is = loaded_is c n t.function s.store t.words t.free s t.is t.loaded in
    few_steps most calls (after before c k (begun s calls))
    (after_in_time most calls c before waits (results c n) kept k (begun s calls) few t.sound t.literals t.kinds (begun_good c (results c n) kept s calls (start_alive c before waits n kept s t))
    (begun_in_time most calls s (ap (λ (s : State). s.waiting) is) (ap (λ (s : State). s.running.at) is)))
