-- What a task keeps to at every moment, and what callers see of it.
use Rattle.std.specs.Prelude.{◌≡◌, ◌≢◌, ℕ, ◌<◌, ◌≤◌, List, ◌∷◌, Option, None, Some, length, map, max, sum}
use Rattle.machine_cells.specs.machine_semantics.Cells.{Store}
use Rattle.machine_cells.specs.machine_semantics.States.{Frame, Typed, State, words_of_frame}
use Rattle.machine_step.specs.code_verify.Checked.{Checked}
use Rattle.machine_step.specs.declared.cursor.Bounds.{Bounds}
use Rattle.machine_step.specs.declared.cursor.Cursor.{Cursor}
use Rattle.machine_step.specs.declared.rows.Stepped.{Stepped}
use Rattle.machine_step.specs.declared.rows.Stepped.TheVariants.{Went, Entered, Value, Trap, Deep}
use Rattle.machine_step.specs.Bounding.{AreAtMost}
use Rattle.machine_step.specs.Placed.{IsPlaced, Waiting}
use Rattle.machine_step.specs.Highest.{IsHigh}

-- The words of all frames, how many the memory that was taken can hold, how many words are spare, and how the run
-- ended.
pub record IsTask (v : Checked) (b : Bounds) (words : List ℕ) (capacity spare : ℕ) (c : Cursor)
    (ended : Option Stepped) : Type 0 where
  pub placed : IsPlaced v b (length words) c
  pub waiting : Waiting v b words c.frames c.base
  pub most : AreAtMost v b.largest
  pub small : b.largest < 100000
  pub beside : b.largest ≤ spare
  pub taken : b.words ≤ capacity
  pub high : IsHigh c
  pub over : ended ≢ Some Went

-- The code, the frame that runs and those that wait, how many frames are free, the words of the results that were
-- given, how many cells of each size from 1 were released, and how the run ended; the frames that wait below the
-- running one and the words of all frames, now and the most since the start; and what can still be done without a call.
pub record Stand : Type 0 where
  pub code : Checked
  pub running : Frame
  pub waiting : List Frame
  pub free : ℕ
  pub given : List ℕ
  pub freed : List ℕ
  pub ended : Option Stepped
  pub frames : ℕ
  pub words : ℕ
  pub most_frames : ℕ
  pub most_words : ℕ
  pub weight : ℕ

-- The frames and words that a task reports are those of its state, and no more than the most.
pub record IsMeasured (t : Stand) : Type 0 where
  pub frames : t.frames ≡ length t.waiting
  pub words : t.words ≡ sum (map words_of_frame (t.running ∷ t.waiting))
  pub most_frames : t.frames ≤ t.most_frames
  pub most_words : t.words ≤ t.most_words

-- The most frames and words become those of the new state, where it has more.
pub record IsRaised (old new : Stand) : Type 0 where
  pub frames : new.most_frames ≡ max old.most_frames new.frames
  pub words : new.most_words ≡ max old.most_words new.words

-- Nothing was done yet.
pub record IsFresh (t : Stand) : Type 0 where
  pub going : t.ended ≡ None
  pub frames : t.most_frames ≡ t.frames
  pub words : t.most_words ≡ t.words

-- The state of a run, with these cells. The words of the entry's borrowed arguments are not kept: they are given.
abbrev pub state_with : Stand → List Typed → Store → State
state_with t lent s = record { store = s; running = t.running; waiting = t.waiting; free = t.free; lent = lent }

-- how the run ended, where it did
abbrev pub ended_by : Stepped → Option Stepped
ended_by Went = None
ended_by Entered = None
ended_by Value = Some Value
ended_by (Trap kind line col) = Some (Trap kind line col)
ended_by Deep = Some Deep
