-- Runs of sound code: by induction over the steps.
use Rattle.std.proofs.Common.{◌≡◌, ℕ, zero, suc, List, subst}
use Rattle.separation_kinds.specs.machine_semantics.States.{State, Next, Went, Entered, Gave, Trapped, TooDeep, Stuck}
use Rattle.separation_kinds.specs.machine_semantics.Steps.{Kinds, next}
use Rattle.separation_kinds.specs.machine_semantics.Runs.{End, Value, Trap, Out, Deep, Unsound, Run, Going, Over, state_of, begun, comes, later, after}
use Rattle.separation_kinds.specs.machine_semantics.Apart.{Apart, GivesApart}
use Rattle.separation_kinds.specs.cell_code.Plain.{PlainCode, results}
use Rattle.separation_kinds.specs.code_rules.Breaks.{IsSound}
use Rattle.separation.specs.Codes.{HasLiterals, AreKinds}
use Rattle.separation.specs.Alive.{IsAlive, IsGiven, IsGood}
use Rattle.separation.specs.Starts.{IsStart}
use Rattle.separation.proofs.Stepping.{next_good}
use Rattle.separation.proofs.Loading.{start_alive}
use Rattle.separation.proofs.Apartness.{alive_apart, given_apart}

-- how a run may end
abbrev pub GoodEnd : PlainCode → List ℕ → List ℕ → State → End → Type 0
GoodEnd c types kept s (Value ws) = IsGiven c types kept s ws
GoodEnd c types kept s (Trap kind line col) = Unit {0}
GoodEnd c types kept s Out = Unit {0}
GoodEnd c types kept s Deep = Unit {0}
GoodEnd c types kept s Unsound = ⊥

-- a run at some moment
abbrev pub GoodRun : PlainCode → List ℕ → List ℕ → Run → Type 0
GoodRun c types kept (Going s left steps) = IsAlive c types kept s
GoodRun c types kept (Over e s left steps) = IsAlive c types kept s × GoodEnd c types kept s e

comes_good : (c : PlainCode) (types kept : List ℕ) (s : State) (left n : ℕ) (x : Next) → IsAlive c types kept s → IsGood c types kept s x → GoodRun c types kept (comes s left n x)
comes_good c types kept s left n (Went t) a g = g
comes_good c types kept s zero n (Entered t) a g = (a, tt)
comes_good c types kept s (suc left) n (Entered t) a g = g
comes_good c types kept s left n (Gave ws) a g = (a, g)
comes_good c types kept s left n (Trapped kind line col) a g = (a, tt)
comes_good c types kept s zero n TooDeep a g = (a, tt)
comes_good c types kept s (suc left) n TooDeep a g = (a, tt)
comes_good c types kept s left n Stuck a g = absurd g

pub later_good : (c : PlainCode) (before waits : Kinds) (types kept : List ℕ) (r : Run) → IsSound c → HasLiterals c → AreKinds c before waits → GoodRun c types kept r → GoodRun c types kept (later before c r)
later_good c before waits types kept (Going s left n) sound literals kinds g = comes_good c types kept s left (suc n) (next before c s) g (next_good c before waits types kept s sound literals kinds g)
later_good c before waits types kept (Over e s left n) sound literals kinds g = g

pub after_good : (c : PlainCode) (before waits : Kinds) (types kept : List ℕ) (n : ℕ) (r : Run) → IsSound c → HasLiterals c → AreKinds c before waits → GoodRun c types kept r → GoodRun c types kept (after before c n r)
after_good c before waits types kept zero r sound literals kinds g = g
after_good c before waits types kept (suc n) r sound literals kinds g = after_good c before waits types kept n (later before c r) sound literals kinds (later_good c before waits types kept r sound literals kinds g)

pub begun_good : (c : PlainCode) (types kept : List ℕ) (s : State) (calls : ℕ) → IsAlive c types kept s → GoodRun c types kept (begun s calls)
begun_good c types kept s zero a = (a, tt)
begun_good c types kept s (suc left) a = a

pub run_good : (c : PlainCode) (before waits : Kinds) (n : ℕ) (kept : List ℕ) (s : State) (calls k : ℕ) → IsStart c before waits n kept s → GoodRun c (results c n) kept (after before c k (begun s calls))
run_good c before waits n kept s calls k t = after_good c before waits (results c n) kept k (begun s calls) t.sound t.literals t.kinds (begun_good c (results c n) kept s calls (start_alive c before waits n kept s t))

state_alive : (c : PlainCode) (types kept : List ℕ) (r : Run) → GoodRun c types kept r → IsAlive c types kept (state_of r)
state_alive c types kept (Going s left n) g = g
state_alive c types kept (Over e s left n) g = g.0

pub run_alive : (c : PlainCode) (before waits : Kinds) (n : ℕ) (kept : List ℕ) (s : State) (calls k : ℕ) → IsStart c before waits n kept s → IsAlive c (results c n) kept (state_of (after before c k (begun s calls)))
run_alive c before waits n kept s calls k t = state_alive c (results c n) kept (after before c k (begun s calls)) (run_good c before waits n kept s calls k t)

pub run_apart : (c : PlainCode) (before waits : Kinds) (n : ℕ) (kept : List ℕ) (s : State) (calls k : ℕ) → IsStart c before waits n kept s → Apart before waits c kept (state_of (after before c k (begun s calls)))
run_apart c before waits n kept s calls k t = alive_apart c before waits (results c n) kept (state_of (after before c k (begun s calls))) t.kinds (run_alive c before waits n kept s calls k t)

end_good : (c : PlainCode) (types kept : List ℕ) (r : Run) (e : End) (last : State) (left steps : ℕ) → r ≡ Over e last left steps → GoodRun c types kept r → GoodEnd c types kept last e
end_good c types kept r e last left steps is g = (subst (GoodRun c types kept) is g).1

pub run_sound : (c : PlainCode) (before waits : Kinds) (n : ℕ) (kept : List ℕ) (s : State) (calls k : ℕ) (last : State) (left steps : ℕ) → IsStart c before waits n kept s → after before c k (begun s calls) ≡ Over Unsound last left steps → ⊥
run_sound c before waits n kept s calls k last left steps t is = end_good c (results c n) kept (after before c k (begun s calls)) Unsound last left steps is (run_good c before waits n kept s calls k t)

pub run_gives : (c : PlainCode) (before waits : Kinds) (n : ℕ) (kept : List ℕ) (s : State) (calls k : ℕ) (ws : List ℕ) (last : State) (left steps : ℕ) → IsStart c before waits n kept s → after before c k (begun s calls) ≡ Over (Value ws) last left steps → GivesApart c n kept last ws
run_gives c before waits n kept s calls k ws last left steps t is = given_apart c n kept last ws (end_good c (results c n) kept (after before c k (begun s calls)) (Value ws) last left steps is (run_good c before waits n kept s calls k t))

pub start_apart : (c : PlainCode) (before waits : Kinds) (n : ℕ) (kept : List ℕ) (s : State) → IsStart c before waits n kept s → Apart before waits c kept s
start_apart c before waits n kept s t = alive_apart c before waits (results c n) kept s t.kinds (start_alive c before waits n kept s t)
