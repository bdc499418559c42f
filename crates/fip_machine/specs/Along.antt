-- For private contracts alone: a task that is at some moment of the run that the definition says.
use Rattle.std.specs.Prelude.{◌≡◌, ℕ, zero, suc, ◌+◌, ◌-◌, Bool, true, false, List, [], Option, Some, None, max, take}
use Rattle.fip_language.specs.Gauge.{Seen, highest_frames, highest_words}
use Rattle.cell_code.specs.declared.code.Instr.{Instr}
use Rattle.cell_code.specs.declared.code.Instr.TheVariants as I
use Rattle.cell_store.specs.Cells.{Cells}
use Rattle.cell_store.specs.Made.{Stored}
use Rattle.machine_step.specs.code_verify.Checked.{Checked}
use Rattle.cell_code.specs.Plain.{plain}
use Rattle.machine_cells.specs.machine_semantics.Codes.{instr_at}
use Rattle.machine_cells.specs.machine_semantics.States.{Typed, State}
use Rattle.machine_cells.specs.machine_semantics.Steps.{Kinds}
use Rattle.machine_cells.specs.machine_semantics.Gauges.{seen}
use Rattle.machine_cells.specs.machine_semantics.Runs.{Value, Trap, Out, Deep, Unsound, Run, Going, Over, begun, after}
use Rattle.machine_cells.specs.Small.{IsSmall, store_of}
use Rattle.machine_step.specs.machine_frames.View.{waiting_in}
use Rattle.machine_step.specs.declared.cursor.Bounds.{Bounds}
use Rattle.machine_step.specs.declared.cursor.Cursor.{Cursor}
use Rattle.machine_step.specs.declared.rows.Beside.{Beside}
use Rattle.machine_step.specs.declared.rows.Stepped.{Stepped}
use Rattle.machine_step.specs.declared.rows.Stepped.TheVariants as S
use Rattle.machine_step.specs.Placed.{weight}
use Rattle.machine_step.specs.View.{words_of}
use Rattle.fip_machine.specs.declared.machine.Ended.{Ended}
use Rattle.fip_machine.specs.declared.machine.Ended.TheVariants as M
use Rattle.fip_machine.specs.declared.stack.Pause.{Pause}
use Rattle.fip_machine.specs.declared.stack.Pause.TheVariants as P
use Rattle.fip_machine.specs.Tasks.{Stand, IsMeasured, state_with}
use Rattle.fip_machine.specs.Ending.{KnowsRun, IsOver}

-- a run, by what it begins with, and by the most frames and words before it
pub record Origin : Type 0 where
  pub code : Checked
  pub kinds : Kinds
  pub lent : List Typed
  pub first : State
  pub calls : ℕ
  pub most_frames : ℕ
  pub most_words : ℕ

-- the run after so many steps
abbrev pub at_step : Origin → ℕ → Run
at_step o n = after o.kinds (plain o.code.code) n (begun o.first o.calls)

-- The run is in this state, with so many calls left; or an instruction could not be done.
abbrev pub IsGoing : Run → State → ℕ → Type 0
IsGoing (Going s l n) now left = (now ≡ s) × (left ≡ l)
IsGoing (Over (Value ws) s l n) now left = ⊥
IsGoing (Over (Trap kind line col) s l n) now left = ⊥
IsGoing (Over Out s l n) now left = ⊥
IsGoing (Over Deep s l n) now left = ⊥
IsGoing (Over Unsound s l n) now left = Unit {0}

-- Nothing is said of a run in which an instruction could not be done.
abbrev pub UnlessStuck : Run → Type 0 → Type 0
UnlessStuck (Going s l n) P = P
UnlessStuck (Over (Value ws) s l n) P = P
UnlessStuck (Over (Trap kind line col) s l n) P = P
UnlessStuck (Over Out s l n) P = P
UnlessStuck (Over Deep s l n) P = P
UnlessStuck (Over Unsound s l n) P = Unit {0}

-- what is seen of the states up to so many steps
abbrev pub seen_to : Origin → ℕ → List Seen
seen_to o n = seen o.kinds (plain o.code.code) n (begun o.first o.calls)

-- The most frames and words of the task are those before the run, or those of its states up to so many steps.
pub record HasMost (o : Origin) (n : ℕ) (t : Stand) : Type 0 where
  pub frames : t.most_frames ≡ max o.most_frames (highest_frames (seen_to o n))
  pub words : t.most_words ≡ max o.most_words (highest_words (seen_to o n))

-- the state of a task over a store
abbrev pub state_in : Origin → Stand → Stored → State
state_in o t s = state_with t o.lent (store_of s.cells s.released)

-- The task is at the beginning of the run, with so many calls.
pub record IsReady (o : Origin) (t : Stand) (s : Stored) (given : ℕ) : Type 0 where
  pub code : t.code ≡ o.code
  pub knows : KnowsRun o.code o.kinds o.first o.calls
  pub going : t.ended ≡ None
  pub small : IsSmall s.cells
  pub empty : s.pushed ≡ []
  pub first : o.first ≡ state_in o t s
  pub calls : o.calls ≡ given
  pub most_frames : o.most_frames ≡ t.most_frames
  pub most_words : o.most_words ≡ t.most_words
  pub measured : IsMeasured t

-- The task is at a moment of the run, with so many calls left.
pub record IsAlong (o : Origin) (t : Stand) (s : Stored) (left : ℕ) : Type 0 where
  pub code : t.code ≡ o.code
  pub knows : KnowsRun o.code o.kinds o.first o.calls
  pub going : t.ended ≡ None
  pub small : IsSmall s.cells
  pub empty : s.pushed ≡ []
  pub steps : ℕ
  pub run : IsGoing (at_step o steps) (state_in o t s) left
  pub most : UnlessStuck (at_step o steps) (HasMost o steps t)
  pub measured : IsMeasured t

-- The run reached this end, and the task is there.
abbrev pub HasRun : Origin → Ended → Stand → Stored → Type 0
HasRun o e t s =
    (n : ℕ) × IsOver (at_step o n) e (state_in o t s) t.given × UnlessStuck (at_step o n) (HasMost o n t)

abbrev pub is_call : Instr → Bool
is_call (I.Const d v) = false
is_call (I.Atom d t c) = false
is_call (I.Move d r) = false
is_call (I.Arith d o x y line col) = false
is_call (I.Test r c target) = false
is_call (I.TestInt r v target) = false
is_call (I.Peek d r i) = false
is_call (I.Take r ds) = false
is_call (I.Put r t c ss) = false
is_call (I.Drop r) = false
is_call (I.Free r) = false
is_call (I.Call f ss ds) = true
is_call (I.Tail f ss) = true
is_call (I.Ret ss) = false
is_call (I.Jump target) = false

abbrev pub is_call_in : Option Instr → Bool
is_call_in None = false
is_call_in (Some x) = is_call x

-- whether the next instruction is a Call or Tail
abbrev pub calls_next : Checked → Stand → Bool
calls_next v t = is_call_in (instr_at (plain v.code) t.running.function t.running.at)

-- A function was entered: a call less is left. With none left this can only be where a call was next.
abbrev pub HasEntered : Origin → ℕ → Bool → Stand → Stored → Type 0
HasEntered o zero call u w = call ≡ false → HasRun o M.Out u w
HasEntered o (suc left) call u w = IsAlong o u w left

abbrev pub IsDeep : Origin → ℕ → Bool → Stand → Stored → Type 0
IsDeep o zero call u w = call ≡ false → HasRun o M.Deep u w
IsDeep o (suc left) call u w = HasRun o M.Deep u w

-- what a step ended in, from a moment with so many calls left, and whether a call was next
abbrev pub CameTo : Origin → ℕ → Bool → Stepped → Stand → Stored → Type 0
CameTo o left call S.Went u w = IsAlong o u w left
CameTo o left call S.Entered u w = HasEntered o left call u w
CameTo o left call S.Value u w = HasRun o M.Value u w
CameTo o left call (S.Trap kind line col) u w = HasRun o (M.Trap kind line col) u w
CameTo o left call S.Deep u w = IsDeep o left call u w

-- how a run ended after its last step; none where a call would come and none is left
abbrev pub end_after : Option Stepped → Ended
end_after None = M.Out
end_after (Some S.Went) = M.Out
end_after (Some S.Entered) = M.Out
end_after (Some S.Value) = M.Value
end_after (Some (S.Trap kind line col)) = M.Trap kind line col
end_after (Some S.Deep) = M.Deep

-- the parts of a task that goes on, as a task
abbrev pub task_of : Checked → Bounds → List ℕ → Cursor → Beside → Stand
task_of v b ws c beside = record {
  code = v;
  running = record { function = c.function; at = c.at; words = words_of ws c };
  waiting = waiting_in v.code.functions.items c.frames (take c.base ws);
  free = b.frames - c.frames;
  given = take beside.given beside.results;
  freed = beside.freed;
  ended = None;
  frames = c.frames;
  words = c.base + c.registers + 2;
  most_frames = c.highest.frames;
  most_words = c.highest.words;
  weight = weight c;
}

-- cells, which of them are released, and the words on their stack
abbrev pub stored : Cells → List Bool → List ℕ → Stored
stored cells released pushed = record { cells = cells; released = released; pushed = pushed; left = 0 }

-- A run paused: at a moment with so many calls left, or at its end.
abbrev pub HasPaused : Origin → Pause → Stand → Stored → ℕ → Type 0
HasPaused o P.Short t s left = IsAlong o t s left
HasPaused o P.Spent t s left = IsAlong o t s left
HasPaused o (P.Over r) t s left = HasRun o (end_after (Some r)) t s

-- It isn't a run in which an instruction could not be done.
abbrev pub IsRight : Run → Type 0
IsRight (Going s l n) = Unit {0}
IsRight (Over (Value ws) s l n) = Unit {0}
IsRight (Over (Trap kind line col) s l n) = Unit {0}
IsRight (Over Out s l n) = Unit {0}
IsRight (Over Deep s l n) = Unit {0}
IsRight (Over Unsound s l n) = ⊥

-- The task is at a moment of a run, with so many calls left, in which each instruction can be done.
pub record IsSafe (t : Stand) (s : Stored) (left : ℕ) : Type 0 where
  pub origin : Origin
  pub never : (n : ℕ) → IsRight (at_step origin n)
  pub along : IsAlong origin t s left
