-- Runs on trees: steps, each the next of a state, with calls that are left. Calls are counted as in a run on cells, and
-- a run ends with an answer, as the meaning of a program does. A run that is over stays as it is.
-- It serves the proof that lowered code means what its program means.
-- rev of three items and none, with 10 calls, takes 4 steps for each item and 3 at the end; then 6 calls are left.
use Rattle.std.specs.Prelude.{◌≡◌, ℕ, zero, suc, [], Option, Some, None}
use Rattle.machine_semantics.specs.fip_language.Values.{Values}
use Rattle.machine_semantics.specs.fip_language.Meaning.{Answer, Gives, Trap, Out, Deep, Stuck}
use Rattle.machine_semantics.specs.cell_code.Plain.{PlainCode}
use Rattle.tree_semantics.specs.States.{State, Next, Went, Entered, Gave, Trapped, TooDeep, Halted}
use Rattle.tree_semantics.specs.Steps.{first_frame, next}

-- A run at some moment: its state, the calls that are left, and the steps that were done. Once it is over, the state is
-- its last one.
pub data Run : Type 0 where
  Going : (s : State) (left steps : ℕ) → Run
  Over : (a : Answer) (last : State) (left steps : ℕ) → Run

-- a run with so many calls, before its first step
abbrev pub begun : State → ℕ → Run
begun s zero = Over Out s 0 0
begun s (suc left) = Going s left 0

-- the run after its step number n, which was from this state, with so many calls before it
abbrev pub comes : State → ℕ → ℕ → Next → Run
comes s left n (Went t) = Going t left n
comes s zero n (Entered t) = Over Out s 0 n
comes s (suc left) n (Entered t) = Going t left n
comes s left n (Gave vs) = Over (Gives vs left) s left n
comes s left n (Trapped kind line col) = Over (Trap kind line col) s left n
comes s zero n TooDeep = Over Out s 0 n
comes s (suc left) n TooDeep = Over Deep s left n
comes s left n Halted = Over Stuck s left n

-- One step leads from a run to another; none leads from a run that is over.
abbrev pub Steps : PlainCode → Run → Run → Type 0
Steps code (Going s left n) t = t ≡ comes s left (suc n) (next code s)
Steps code (Over a s left n) t = ⊥

-- the run one step later
abbrev pub later : PlainCode → Run → Run
later code (Going s left n) = comes s left (suc n) (next code s)
later code (Over a s left n) = Over a s left n

-- the run so many steps later
abbrev pub after : PlainCode → ℕ → Run → Run
after code zero r = r
after code (suc n) r = after code n (later code r)

-- how a run ended, and after how many steps
pub record Ending : Type 0 where
  pub answer : Answer
  pub steps : ℕ

abbrev pub ending : Run → Option Ending
ending (Going s left steps) = None
ending (Over a s left steps) = Some (record { answer = a; steps = steps })

-- the state in which the entry f begins, with these arguments and so many free frames
abbrev pub entry : ℕ → Values → ℕ → State
entry f vs free = record { running = first_frame f vs; waiting = []; free = free }
