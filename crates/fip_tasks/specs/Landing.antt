-- For private contracts alone: where one task stands after a turn, and after as many as it takes.
use Rattle.std.specs.Prelude.{◌≡◌, ℕ, ◌≤◌, max, List, [], Option, Some, None}
use Rattle.cell_store.specs.Made.{Stored}
use Rattle.fip_language.specs.Gauge.{Seen, highest_frames, highest_words}
use Rattle.code_verify.specs.cell_code.Plain.{plain}
use Rattle.task_semantics.specs.machine_semantics.Cells.{Store}
use Rattle.task_semantics.specs.machine_semantics.Gauges.{seen}
use Rattle.task_semantics.specs.machine_semantics.States.{frames_held, words_held}
use Rattle.task_semantics.specs.machine_semantics.Steps.{Kinds}
use Rattle.task_semantics.specs.machine_semantics.Runs.{Run, state_of, later, after}
use Rattle.code_verify.specs.Checked.{Checked}
use Rattle.fip_machine.specs.machine_cells.Small.{IsSmall, store_of}
use Rattle.fip_machine.specs.machine_cells.Counting.{freed_of}
use Rattle.fip_machine.specs.declared.machine.Ended.{Ended}
use Rattle.task_semantics.specs.Schedules.{in_store}
use Rattle.fip_tasks.specs.declared.task.Advanced.{Advanced}
use Rattle.fip_tasks.specs.declared.task.Advanced.TheVariants as A
use Rattle.fip_tasks.specs.declared.task.Start.{Start}
use Rattle.fip_tasks.specs.declared.task.Task.{Task}
use Rattle.fip_tasks.specs.Turns.{Standing}
use Rattle.fip_tasks.specs.Gauged.{HasCounted}
use Rattle.fip_tasks.specs.Shown.{StandsAt, CanGo, IsStarted}

-- a task as callers see it
abbrev pub standing : Task → Standing
standing t = record { stack = t.stack; left = t.calls_left; started = t.started; ended = t.ended }

-- how a task has ended by what a step came to
abbrev pub end_by : Advanced → Option Ended
end_by A.Went = None
end_by A.Called = None
end_by (A.Over e) = Some e

abbrev pub cells_of : Stored → Store
cells_of s = store_of s.cells s.released

-- It stands where the run does, whose cells are these.
pub record IsLanded (v : Checked) (t : Standing) (store : Store) (r : Run) : Type 0 where
  pub stands : StandsAt v t r
  pub cells : (state_of r).store ≡ store

-- The most frames and words of the task are at least those of the run.
abbrev pub IsWithin : Standing → Run → Type 0
IsWithin t r = (frames_held (state_of r) ≤ t.stack.most_frames) × (words_held (state_of r) ≤ t.stack.most_words)

-- They became those of these states, where these have more.
pub record HasRisen (old new : Standing) (ss : List Seen) : Type 0 where
  pub frames : new.stack.most_frames ≡ max old.stack.most_frames (highest_frames ss)
  pub words : new.stack.most_words ≡ max old.stack.most_words (highest_words ss)

-- A turn, from a moment over these cells to another.
pub record Lands (old : Standing) (before : Stored) (new : Standing) (following : Stored) : Type 0 where
  pub small : IsSmall before.cells → IsSmall following.cells
  pub empty : before.pushed ≡ [] → following.pushed ≡ []
  pub counted : HasCounted old (cells_of before) new (cells_of following)
  pub turn : (v : Checked) (kinds : Kinds) (r : Run) → IsSmall before.cells → before.pushed ≡ [] → StandsAt v old r →
      CanGo v kinds (in_store (cells_of before) r) →
      IsLanded v new (cells_of following) (later kinds (plain v.code) (in_store (cells_of before) r))
  pub risen : (v : Checked) (kinds : Kinds) (r : Run) → IsSmall before.cells → before.pushed ≡ [] → StandsAt v old r →
      CanGo v kinds (in_store (cells_of before) r) → IsWithin old r →
      HasRisen old new (seen kinds (plain v.code) 1 (in_store (cells_of before) r))

-- Turns of one task, from a moment over these cells to another, of a run that can go on at each of them.
pub record Goes (old : Standing) (before : Stored) (new : Standing) (following : Stored) : Type 0 where
  pub small : IsSmall before.cells → IsSmall following.cells
  pub empty : before.pushed ≡ [] → following.pushed ≡ []
  pub counted : HasCounted old (cells_of before) new (cells_of following)
  pub turns : (v : Checked) (kinds : Kinds) (r : Run) → IsSmall before.cells → before.pushed ≡ [] → StandsAt v old r →
      ((n : ℕ) → CanGo v kinds (after kinds (plain v.code) n (in_store (cells_of before) r))) →
      (n : ℕ) × IsLanded v new (cells_of following) (after kinds (plain v.code) n (in_store (cells_of before) r))
      × (IsWithin old r → HasRisen old new (seen kinds (plain v.code) n (in_store (cells_of before) r)))

-- A new task stands where its start begins.
abbrev pub IsNew : Checked → Start → Standing → Type 0
IsNew v start t = (cells : Store) (r : Run) → IsStarted v cells start r → StandsAt v t r

-- It has seen the state where its start begins, and has released no cell.
pub record HasBegun (t : Standing) (r : Run) : Type 0 where
  pub frames : t.stack.most_frames ≡ frames_held (state_of r)
  pub words : t.stack.most_words ≡ words_held (state_of r)
  pub freed : (size : ℕ) → freed_of t.stack.freed size ≡ 0

abbrev pub Begins : Checked → Start → Standing → Type 0
Begins v start t = (cells : Store) (r : Run) → IsStarted v cells start r → HasBegun t r
