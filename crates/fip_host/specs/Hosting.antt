-- A machine that owns its code, as its callers see it, and what its calls do: a run stands where the definition's run
-- does, before and after.
--
-- rev of a list of two items: after `fip_start` the run is at the function's first instruction, with the words of the
-- arguments in its registers; each `fip_step` is one step of the definition's run; `fip_run` with 10 calls comes to its
-- end, status 0, and leaves the words of its results.
use Rattle.std.specs.Prelude.{◌≡◌, ℕ, Bool, true, false, List, [], ◌++◌, Option, Some, None, length, min}
use Rattle.std.specs.Prelude.{slice_get, IfSome}
use Rattle.fip_base.specs.declared.plain.Stack.{Stack}
use Rattle.fip_language.specs.declared.limits.TheConstants.{MOST_FRAMES}
use Rattle.fip_language.specs.SoundTable.{IsSoundTable}
use Rattle.cell_code.specs.Plain.{plain}
use Rattle.code_verify.specs.code_rules.StackNumbers.{HasStack}
use Rattle.fip_machine.specs.machine_cells.machine_semantics.Cells.{Store}
use Rattle.fip_machine.specs.machine_cells.machine_semantics.States.{Typed, State}
use Rattle.fip_machine.specs.machine_cells.machine_semantics.Steps.{Kinds, next}
use Rattle.fip_machine.specs.machine_cells.machine_semantics.Runs.{loaded}
use Rattle.fip_machine.specs.machine_cells.Small.{IsSmall, store_of}
use Rattle.fip_machine.specs.machine_step.Coming.{Comes, KnowsAt}
use Rattle.fip_machine.specs.machine_step.declared.rows.Stepped.{Stepped}
use Rattle.fip_machine.specs.machine_step.declared.rows.Stepped.TheVariants as S
use Rattle.fip_machine.specs.cell_code.declared.code.Function.{Function}
use Rattle.fip_machine.specs.cell_store.Cells.{Cells}
use Rattle.fip_machine.specs.cell_store.Made.{Loading}
use Rattle.fip_machine.specs.code_verify.Checked.{Checked}
use Rattle.fip_machine.specs.declared.gauge.Gauge.{Gauge}
use Rattle.fip_machine.specs.declared.machine.Ended.{Ended}
use Rattle.fip_machine.specs.declared.stack.paused.Paused.{Paused}
use Rattle.fip_machine.specs.GaugeView.{IsUnseen, ReportsRun}
use Rattle.fip_machine.specs.Pausing.{CanResume, stand_of}
use Rattle.fip_machine.specs.Tasks.{Stand, state_with, ended_by, IsFresh}
use Rattle.fip_machine.specs.Ending.{KnowsRun, RunsTo}
use Rattle.run_safety.specs.Safe.{IsSafeTask}
use Rattle.fip_host.specs.declared.answer.FipEnd.{FipEnd}
use Rattle.fip_host.specs.declared.hosted.Kept.{Kept}
use Rattle.fip_host.specs.Making.{AreMade}
use Rattle.fip_host.specs.Statuses.{end_at, end_by, end_by_run}

-- the code, the run where there is one, the cells, the words that the store has left, what the calls of `run` saw, the
-- function that was started last, whether its results may be read, and what is kept under each number
pub record Seen : Type 0 where
  pub code : Checked
  pub task : Option Stand
  pub store : Store
  pub left : ℕ
  pub gauge : Gauge
  pub entry : ℕ
  pub is_open : Bool
  pub kept : List (Option Kept)

-- what is said of a run that is safe
abbrev pub IfSafe : Bool → Type 0 → Type 0
IfSafe false P = Unit {0}
IfSafe true P = P

-- What a machine keeps to between calls: the table of its code's types is sound, its run can be taken up over its code,
-- no word is on the store's stack, and the places of its cells have 32 bits. Where it is safe, its run never comes to an
-- instruction that can't be done.
pub record IsHosted (code : Checked) (task : Option Paused) (cells : Cells) (released : List Bool) (pushed : List ℕ)
    (is_safe : Bool) : Type 0 where
  pub table : IsSoundTable code.code.types
  pub resumes : IfSome task (CanResume code)
  pub empty : pushed ≡ []
  pub small : IsSmall cells
  pub safe : IfSafe is_safe (IfSome task (λ p. IsSafeTask (stand_of code p) (store_of cells released)))

-- its store, as a loader has it
abbrev pub loading_of : Seen → Loading
loading_of m = record { cells = m.store.cells; released = m.store.released; left = m.left }

-- the free frames of a run: as many as its function's stack number says, or as are given; at most 1,000,000
abbrev pub frames_of : ℕ → Option Stack → ℕ
frames_of given None = min given MOST_FRAMES
frames_of given (Some s) = min s.frames MOST_FRAMES

-- A run of code v is at the start of function f, on these words, where so many frames are given: its state is the one in
-- which the definition's run of f on these words begins, over these cells.
pub record StandsAtStart (v : Checked) (f : ℕ) (words : List ℕ) (given : ℕ) (s : Store) (stand : Stand) : Type 0 where
  pub code : stand.code ≡ v
  pub fresh : IsFresh stand
  pub held : Option Stack
  pub has : HasStack (plain v.code) f held
  pub state : State
  pub loads : loaded (plain v.code) f s words (frames_of given held) ≡ Some state
  pub at : state_with stand state.lent s ≡ state

-- A machine has such a run, of which nothing was seen yet, and its results may be read.
pub record IsAtStart (f : ℕ) (words : List ℕ) (given : ℕ) (m : Seen) : Type 0 where
  pub stand : Stand
  pub is : m.task ≡ Some stand
  pub entry : m.entry ≡ f
  pub unseen : IsUnseen m.gauge
  pub can_be_read : m.is_open ≡ true
  pub start : StandsAtStart m.code f words given m.store stand

-- A run is at the start of function f, on these words and then on those of cells that were made for its credits.
pub record IsStarted (f : ℕ) (words : List ℕ) (given : ℕ) (old new : Seen) : Type 0 where
  pub function : Function
  pub is : slice_get old.code.code.functions.items f ≡ Some function
  pub credits : List ℕ
  pub made : AreMade function.credits.items credits (loading_of old) (loading_of new)
  pub start : IsAtStart f (words ++ credits) given new

-- One instruction of a run that stands so was done: the state is the definition's next one, or the end that it says; a
-- run that has ended stays as it is.
pub record HasStepped (old new : Seen) (end : FipEnd) (t : Stand) : Type 0 where
  pub stand : Stand
  pub is : new.task ≡ Some stand
  pub stepped : Stepped
  pub reported : end ≡ end_by (ended_by stepped)
  pub going : t.ended ≡ None → (kinds : Kinds) → KnowsAt t.code kinds t.running.function t.running.at →
      (lent : List Typed) → Comes (state_with t lent old.store)
      (next kinds (plain t.code.code) (state_with t lent old.store)) stepped (state_with stand lent new.store)
      stand.given
  pub ends : t.ended ≡ None → stand.ended ≡ ended_by stepped
  pub over : (e : Stepped) → t.ended ≡ Some e → (stepped ≡ e) × (stand ≡ t) × (new.store ≡ old.store)

abbrev pub StepsTo : Seen → Seen → FipEnd → Type 0
StepsTo old new end = (t : Stand) → old.task ≡ Some t → HasStepped old new end t

-- A run that stands so was run with so many calls: the end, the last state and the words of the results are those of
-- the definition's run. Where it was just started, the gauge reports of all its states.
pub record HasRun (old : Seen) (calls : ℕ) (new : Seen) (end : FipEnd) (t : Stand) : Type 0 where
  pub stand : Stand
  pub is : new.task ≡ Some stand
  pub ended : Ended
  pub reported : end ≡ end_by_run ended
  pub runs : (kinds : Kinds) (lent : List Typed) → KnowsRun t.code kinds (state_with t lent old.store) calls →
      t.ended ≡ None → RunsTo kinds (plain t.code.code) (state_with t lent old.store) calls ended
      (state_with stand lent new.store) stand.given
  pub gauge : IsUnseen old.gauge → (kinds : Kinds) (lent : List Typed) → KnowsRun t.code kinds
      (state_with t lent old.store) calls → IsFresh t → ReportsRun kinds (plain t.code.code)
      (state_with t lent old.store) calls new.gauge

abbrev pub RunsOn : Seen → ℕ → Seen → FipEnd → Type 0
RunsOn old calls new end = (t : Stand) → old.task ≡ Some t → HasRun old calls new end t

-- Where no run is, the status is 13.
abbrev pub IsIdle : Seen → FipEnd → Type 0
IsIdle old end = old.task ≡ None → end ≡ end_at 13

-- where a run is
abbrev pub end_now : Option Stand → FipEnd
end_now None = end_at 13
end_now (Some t) = end_by t.ended

-- the words of the results of a run that ended so
abbrev pub words_by : Option Stepped → List ℕ → Option (List ℕ)
words_by None ws = None
words_by (Some S.Value) ws = Some ws
words_by (Some (S.Trap kind line col)) ws = None
words_by (Some S.Deep) ws = None
words_by (Some S.Went) ws = None
words_by (Some S.Entered) ws = None

abbrev pub words_given : Option Stand → Bool → Option (List ℕ)
words_given None o = None
words_given (Some t) false = None
words_given (Some t) true = words_by t.ended t.given

-- the words of the results, where the run ended with values that aren't kept yet
abbrev pub results_of : Seen → Option (List ℕ)
results_of m = words_given m.task m.is_open

-- how many there are; 0 where there are none to be read
abbrev pub count_of : Option (List ℕ) → ℕ
count_of None = 0
count_of (Some ws) = length ws
