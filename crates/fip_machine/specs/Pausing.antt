-- A task that was put aside, over the code that it was started at: what callers see of it, and that it can be taken up
-- again. Nothing is said of one over another code.
use Rattle.std.specs.Prelude.{ℕ, ◌+◌, ◌-◌, List, [], Option, Some, None, slice_get, take}
use Rattle.std.specs.Vec.{vec_capacity, vec_len}
use Rattle.cell_code.specs.declared.code.Function.{Function}
use Rattle.cell_code.specs.declared.code.Instr.{Instr}
use Rattle.machine_step.specs.code_verify.Checked.{Checked}
use Rattle.machine_step.specs.machine_frames.View.{waiting_in}
use Rattle.machine_step.specs.declared.cursor.Cursor.{Cursor}
use Rattle.machine_step.specs.Placed.{weight}
use Rattle.machine_step.specs.View.{words_of}
use Rattle.fip_machine.specs.declared.stack.paused.Place.{Place}
use Rattle.fip_machine.specs.declared.stack.paused.Paused.{Paused}
use Rattle.fip_machine.specs.Tasks.{Stand, IsTask}

-- the instructions of a function, none where there is none of this number
abbrev pub instrs_in : Option Function → List Instr
instrs_in None = []
instrs_in (Some g) = g.instrs.items

abbrev pub instrs_at : List Function → ℕ → List Instr
instrs_at fs f = instrs_in (slice_get fs f)

-- where the run is, at the code's instructions
abbrev pub cursor_of : Checked → Place → Cursor
cursor_of v p = record {
  instrs = record { ref_ptr = (0, 0); now = instrs_at v.code.functions.items p.function };
  registers = p.registers;
  function = p.function;
  at = p.at;
  base = p.base;
  frames = p.frames;
  highest = p.highest;
}

-- It was put aside as a task of this code.
abbrev pub CanResume : Checked → Paused → Type 0
CanResume v p = IsTask v p.bounds p.words.items (vec_capacity p.words) (vec_len p.beside.spare) (cursor_of v p.place)
    p.ended

abbrev pub stand_of : Checked → Paused → Stand
stand_of v p = record {
  code = v;
  running = record { function = p.place.function; at = p.place.at; words = words_of p.words.items (cursor_of v p.place) };
  waiting = waiting_in v.code.functions.items p.place.frames (take p.place.base p.words.items);
  free = p.bounds.frames - p.place.frames;
  given = take p.beside.given p.beside.results;
  freed = p.beside.freed;
  ended = p.ended;
  frames = p.place.frames;
  words = p.place.base + p.place.registers + 2;
  most_frames = p.place.highest.frames;
  most_words = p.place.highest.words;
  weight = weight (cursor_of v p.place);
}
