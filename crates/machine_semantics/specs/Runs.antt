-- Runs: steps, each the next of a state, with calls that are left.
-- The entry takes one call, and each Call and Tail takes one. Where none is left the run is out of calls, before a free
-- frame is needed; so with no calls it is over before its first step. Every instruction is a step; one that ends the
-- run is its last. A run that is over stays as it is.
-- rev of two items and none, with 3 calls, takes 4 steps for each item and 3 at the end: after 11 steps it is over with
-- a value, and no call is left. With 2 calls it is out of calls after 8.
use Rattle.std.specs.Prelude.{◌≡◌, ℕ, zero, suc, Bool, true, false, ◌&&◌, not, List, [], ◌∷◌, Option, Some, None}
use Rattle.std.specs.Prelude.{if◌then◌else◌}
use Rattle.cell_code.specs.fip_language.declared.TrapKind.{TrapKind}
use Rattle.cell_code.specs.fip_language.Table.{Table, is_scalar}
use Rattle.cell_code.specs.fip_base.declared.plain.Param.{Param}
use Rattle.cell_code.specs.Plain.{PlainFunction, PlainCode, function_at}
use Rattle.machine_semantics.specs.Cells.{Store}
use Rattle.machine_semantics.specs.States.{Typed, State, Next, Went, Entered, Gave, Trapped, TooDeep, Stuck}
use Rattle.machine_semantics.specs.Steps.{Kinds, first_frame, next}

-- how a run ends
pub data End : Type 0 where
  -- with the words of the entry's results
  Value : (words : List ℕ) → End
  -- an operator has no value; the line and column are its own
  Trap : (kind : TrapKind) (line col : ℕ) → End
  -- no call was left
  Out : End
  -- no frame was free
  Deep : End
  -- an instruction can't be done, which never comes of sound code
  Unsound : End

-- A run at some moment: its state, the calls that are left, and the steps that were done. Once it is over, the state is
-- its last one.
pub data Run : Type 0 where
  Going : (s : State) (left steps : ℕ) → Run
  Over : (e : End) (last : State) (left steps : ℕ) → Run

abbrev pub state_of : Run → State
state_of (Going s left steps) = s
state_of (Over e s left steps) = s

-- a run with so many calls, before its first step
abbrev pub begun : State → ℕ → Run
begun s zero = Over Out s 0 0
begun s (suc left) = Going s left 0

-- the run after its step number n, which was from this state, with so many calls before it
abbrev pub comes : State → ℕ → ℕ → Next → Run
comes s left n (Went t) = Going t left n
comes s zero n (Entered t) = Over Out s 0 n
comes s (suc left) n (Entered t) = Going t left n
comes s left n (Gave ws) = Over (Value ws) s left n
comes s left n (Trapped kind line col) = Over (Trap kind line col) s left n
comes s zero n TooDeep = Over Out s 0 n
comes s (suc left) n TooDeep = Over Deep s left n
comes s left n Stuck = Over Unsound s left n

-- One step leads from a run to another; none leads from a run that is over.
abbrev pub Steps : Kinds → PlainCode → Run → Run → Type 0
Steps kinds code (Going s left n) t = t ≡ comes s left (suc n) (next kinds code s)
Steps kinds code (Over e s left n) t = ⊥

-- the run one step later
abbrev pub later : Kinds → PlainCode → Run → Run
later kinds code (Going s left n) = comes s left (suc n) (next kinds code s)
later kinds code (Over e s left n) = Over e s left n

-- the run so many steps later
abbrev pub after : Kinds → PlainCode → ℕ → Run → Run
after kinds code zero r = r
after kinds code (suc n) r = after kinds code n (later kinds code r)

-- The run with so many calls from this state ends so, in this last state, with so many calls left, after so many steps.
pub record Ends (kinds : Kinds) (code : PlainCode) (s : State) (calls : ℕ) (e : End) (last : State) (left steps : ℕ) :
    Type 0 where
  pub enough : ℕ
  pub is : after kinds code enough (begun s calls) ≡ Over e last left steps

-- the arguments that are borrowed, those of scalar types not among them
abbrev pub lent_words : Table → List Param → List ℕ → List Typed
lent_words tb [] ws = []
lent_words tb (p ∷ ps) [] = []
lent_words tb (p ∷ ps) (w ∷ ws) = if p.lent && not (is_scalar tb p.ty) then
    record { type = p.ty; word = w } ∷ lent_words tb ps ws else lent_words tb ps ws

abbrev pub loaded_in : Table → ℕ → Option PlainFunction → Store → List ℕ → ℕ → Option State
loaded_in tb f None store ws free = None
loaded_in tb f (Some g) store ws free = Some (record {
  store = store;
  running = first_frame f g ws;
  waiting = [];
  free = free;
  lent = lent_words tb g.params ws;
})

-- The state in which the entry f begins, with the words of its arguments and then of its credits.
abbrev pub loaded : PlainCode → ℕ → Store → List ℕ → ℕ → Option State
loaded code f store ws free = loaded_in code.types f (function_at code f) store ws free
