-- Tasks that have followed a schedule: they stand where its runs do, and what they counted and saw, for their gauges, is
-- what the schedule says of these runs.
--
-- Two tasks took the turns 0, 1 and 0. The first was at its start and after each of its two turns in one frame of 9
-- words beside which none waited: so the most of frames is 0 for it, and the most of words 9. Its second turn was a
-- Drop of a list of two items: so it has released two cells of size 2.
use Rattle.std.specs.Prelude.{◌≡◌, ℕ, ◌+◌, ◌-◌, ◌≤◌, max, nat_eq, if◌then◌else◌, List, [], ◌∷◌, Option, Some, None, slice_get}
use Rattle.fip_language.specs.declared.limits.TheConstants.{MOST_FIELDS}
use Rattle.task_semantics.specs.machine_semantics.Cells.{count_held}
use Rattle.code_verify.specs.cell_code.Plain.{PlainCode, plain}
use Rattle.task_semantics.specs.machine_semantics.Runs.{Run, state_of}
use Rattle.task_semantics.specs.machine_semantics.States.{frames_held, words_held}
use Rattle.task_semantics.specs.machine_semantics.Steps.{Kinds}
use Rattle.task_semantics.specs.Schedules.{Shared, turn, scheduled}
use Rattle.code_verify.specs.Checked.{Checked}
use Rattle.fip_machine.specs.machine_cells.Counting.{freed_of}
use Rattle.fip_machine.specs.machine_cells.Small.{IsSmall}
use Rattle.fip_tasks.specs.Shown.{Shows}
use Rattle.fip_tasks.specs.Turns.{Standing, Turns}

-- the frames and the words of a run, where there is one
abbrev pub frames_in : Option Run → ℕ
frames_in None = 0
frames_in (Some r) = frames_held (state_of r)

abbrev pub words_in : Option Run → ℕ
words_in None = 0
words_in (Some r) = words_held (state_of r)

-- the most frames and words of task k, before the first turn of a schedule and after each
abbrev pub frames_reached : Kinds → PlainCode → ℕ → List ℕ → Shared → ℕ
frames_reached kinds code k [] t = frames_in (slice_get t.runs k)
frames_reached kinds code k (j ∷ js) t =
    max (frames_in (slice_get t.runs k)) (frames_reached kinds code k js (turn kinds code t j))

abbrev pub words_reached : Kinds → PlainCode → ℕ → List ℕ → Shared → ℕ
words_reached kinds code k [] t = words_in (slice_get t.runs k)
words_reached kinds code k (j ∷ js) t =
    max (words_in (slice_get t.runs k)) (words_reached kinds code k js (turn kinds code t j))

-- how many cells of a size are held no more after a turn of a task
abbrev pub turn_released : Kinds → PlainCode → ℕ → Shared → ℕ → ℕ
turn_released kinds code size t k = count_held size t.store - count_held size (turn kinds code t k).store

-- how many of them the turns of task k have released
abbrev pub cells_released : Kinds → PlainCode → ℕ → ℕ → List ℕ → Shared → ℕ
cells_released kinds code k size [] t = 0
cells_released kinds code k size (j ∷ js) t = (if nat_eq k j then turn_released kinds code size t j else 0)
    + cells_released kinds code k size js (turn kinds code t j)

-- The task, which has number k, counted and saw so much.
pub record HasSeen (kinds : Kinds) (code : PlainCode) (first : Shared) (schedule : List ℕ) (k : ℕ) (t : Standing) :
    Type 0 where
  pub frames : t.stack.most_frames ≡ frames_reached kinds code k schedule first
  pub words : t.stack.most_words ≡ words_reached kinds code k schedule first
  pub freed : (size : ℕ) → 1 ≤ size → size ≤ MOST_FIELDS →
      freed_of t.stack.freed size ≡ cells_released kinds code k size schedule first

abbrev pub HaveSeen : Kinds → PlainCode → Shared → List ℕ → Turns → Type 0
HaveSeen kinds code first schedule t =
    (k : ℕ) (a : Standing) → slice_get t.tasks k ≡ Some a → HasSeen kinds code first schedule k a

-- The tasks have followed a schedule, from the runs at its start on.
pub record HaveFollowed (v : Checked) (kinds : Kinds) (first : Shared) (schedule : List ℕ) (t : Turns) : Type 0 where
  pub small : IsSmall first.store.cells
  pub shows : Shows v t (scheduled kinds (plain v.code) schedule first)
  pub seen : HaveSeen kinds (plain v.code) first schedule t
