-- The words of all frames, where a run is among them, and a store, as a state of a run. The entry's borrowed arguments
-- are not kept; a state has them, so they are given.
use Rattle.std.specs.Prelude.{ℕ, ◌-◌, List, take}
use Rattle.code_verify.specs.Checked.{Checked}
use Rattle.machine_frames.specs.machine_semantics.Cells.{Store}
use Rattle.machine_frames.specs.machine_semantics.States.{Typed, State}
use Rattle.machine_frames.specs.View.{frame_at, waiting_in}
use Rattle.machine_step.specs.declared.cursor.Bounds.{Bounds}
use Rattle.machine_step.specs.declared.cursor.Cursor.{Cursor}

-- the words of the running frame
abbrev pub words_of : List ℕ → Cursor → List ℕ
words_of ws c = frame_at c.base c.registers ws

abbrev pub state_of : Checked → Bounds → List Typed → Store → List ℕ → Cursor → State
state_of v b lent s ws c = record {
  store = s;
  running = record { function = c.function; at = c.at; words = words_of ws c };
  waiting = waiting_in v.code.functions.items c.frames (take c.base ws);
  free = b.frames - c.frames;
  lent = lent;
}
