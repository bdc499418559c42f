-- A machine at the start of a function, and what keeps a function from it; and, for private contracts alone, how a
-- machine ended, and the gauge that saw its run.
use Rattle.std.specs.Prelude.{◌≡◌, ◌-◌, ◌<◌, ◌≤◌, ◌++◌, ℕ, List, [], Option, Some, None, Result, Ok, Err}
use Rattle.std.specs.Prelude.{slice_index_or}
use Rattle.fip_language.specs.Prefix.{IsPlace}
use Rattle.fip_language.specs.PrintedText.{printed_lines}
use Rattle.fip_language.specs.Table.{Table}
use Rattle.fip_language.specs.Values.{Values}
use Rattle.fip_language.specs.ValueText.{SpellsValues}
use Rattle.fip_base.specs.declared.plain.Stack.{Stack}
use Rattle.command_words.specs.Words.{Room}
use Rattle.command_outcome.specs.declared.failure.Failure.{Failure}
use Rattle.command_outcome.specs.declared.failure.Failure.TheVariants as F
use Rattle.cell_store.specs.Made.{Loading}
use Rattle.command_eval.specs.machine_correctness.machine_semantics.Cells.{Store, IsStore}
use Rattle.command_eval.specs.machine_correctness.machine_semantics.Runs.{loaded}
use Rattle.command_eval.specs.machine_correctness.machine_semantics.States.{State}
use Rattle.code_verify.specs.cell_code.Plain.{PlainFunction, plain, function_at}
use Rattle.command_eval.specs.machine_correctness.code_rules.StackNumbers.{HasStack}
use Rattle.fip_machine.specs.machine_cells.Small.{IsSmall, store_of}
use Rattle.fip_machine.specs.declared.gauge.Gauge.{Gauge}
use Rattle.fip_machine.specs.declared.machine.Ended.{Ended}
use Rattle.fip_machine.specs.declared.machine.Ended.TheVariants as M
use Rattle.fip_machine.specs.Machines.{Seen}
use Rattle.fip_machine.specs.Tasks.{state_with, IsFresh}
use Rattle.value_text.specs.FirstStore.{IsInOrder}
use Rattle.value_text.specs.Loaded.{types_of, IsLoaded}
use Rattle.command_eval.specs.machine_correctness.run_loading.Loading.{first_store, first_words}
use Rattle.session_semantics.specs.Talk.{frames_of}
use Rattle.command_eval.specs.machine_correctness.Meant.{ArePrintable}
use Rattle.command_eval.specs.machine_correctness.Starts.{Begins}
use Rattle.command_eval.specs.command_source.Entries.{Chosen}
use Rattle.command_run.specs.CodeRun.{words_for}
use Rattle.command_run.specs.GaugeText.{gauge_text}

-- ---- what is loaded

-- The words were loaded from a text, with the cells of credits, into a store of so many words that had no cell: in the
-- order of the ) in the text, and then the credits'.
pub record IsInNewStore (tb : Table) (types credits bytes : List ℕ) (words : ℕ) (new : Loading) (ws : List ℕ) : Type 0
  where
    pub old : Loading
    pub empty : old.cells ≡ []
    pub unreleased : old.released ≡ []
    pub left : old.left ≡ words
    pub loaded : IsLoaded tb types credits bytes old new ws
    pub order : IsInOrder tb types credits bytes old new ws
    pub store : IsStore (store_of new.cells new.released)

-- What keeps from it: the text is none, or its cells and those of the credits need more words; or memory runs out.
abbrev pub KeepsFromLoading : Table → List ℕ → List ℕ → List ℕ → ℕ → Failure → Type 0
KeepsFromLoading tb types credits bytes words (F.BadInput at) = IsPlace (SpellsValues tb types) bytes at
KeepsFromLoading tb types credits bytes words (F.TooSmall needed given) =
    (vs : Values) × SpellsValues tb types bytes vs × (needed ≡ words_for vs credits) × (given ≡ words)
    × (words < needed)
KeepsFromLoading tb types credits bytes words F.NoMemory = Unit {0}
KeepsFromLoading tb types credits bytes words failure = ⊥

-- ---- the start

-- the frames that a run of the function has, where so many are given
pub record HasFrames (r : Chosen) (given frames : ℕ) : Type 0 where
  pub held : Option Stack
  pub stack : HasStack (plain r.checked.code) r.entry held
  pub are : frames ≡ frames_of given held

-- The machine is at the start of the function, on the values that the input encodes, as they are loaded.
pub record IsStarted (r : Chosen) (input : List ℕ) (room : Room) (m : Seen) : Type 0 where
  pub function : PlainFunction
  pub there : function_at (plain r.checked.code) r.entry ≡ Some function
  pub values : Values
  pub spelt : SpellsValues r.checked.code.types (types_of function.params) input values
  pub fits : words_for values function.credits ≤ room.words
  pub frames : ℕ
  pub has_frames : HasFrames r room.frames frames
  pub state : State
  pub begins : Begins r.checked.code r.entry function values frames state
  pub loads : loaded (plain r.checked.code) r.entry (first_store values function.credits)
      (first_words values function.credits) frames ≡ Some state
  pub stands : state_with m.stack state.lent m.store ≡ state
  pub code : m.stack.code ≡ r.checked
  pub fresh : IsFresh m.stack
  pub small : IsSmall m.store.cells
  pub pushed : m.pushed ≡ []

-- What keeps the function from it.
pub record KeepsFromStart (r : Chosen) (input : List ℕ) (room : Room) (failure : Failure) : Type 0 where
  pub held : Option Stack
  pub stack : HasStack (plain r.checked.code) r.entry held
  pub keeps : (f : PlainFunction) → function_at (plain r.checked.code) r.entry ≡ Some f →
      KeepsFromLoading r.checked.code.types (types_of f.params) f.credits input room.words failure

-- ---- the gauge

-- the lowest and the highest number of cells of a size: a size has its numbers one place before it
abbrev pub low_of : Gauge → ℕ → ℕ
low_of g k = slice_index_or g.lowest (k - 1) 0

abbrev pub high_of : Gauge → ℕ → ℕ
high_of g k = slice_index_or g.highest (k - 1) 0

abbrev pub stack_of : Gauge → Stack
stack_of g = record { frames = g.frames; words = g.words }

abbrev pub gauge_lines : Gauge → Option Stack → List ℕ
gauge_lines g bound = gauge_text (low_of g) (high_of g) (stack_of g) bound

-- ---- the end

-- what a run that ended so is reported as, where it gave no value
abbrev pub failure_for : Ended → ℕ → ℕ → Option Failure
failure_for M.Value calls frames = None
failure_for (M.Trap kind line col) calls frames = Some (F.Trap kind line col)
failure_for M.Out calls frames = Some (F.OutOfCalls calls)
failure_for M.Deep calls frames = Some (F.OutOfFrames frames)

-- The end is reported so, where the words of the results have these types, and these lines are after them.
abbrev pub ReportsEnded : Table → List ℕ → Room → List ℕ → Store → List ℕ → Ended → Result (List ℕ) Failure → Type 0
ReportsEnded tb types room following s given M.Value e =
    (vs : Values) → ArePrintable tb s.cells types given vs → e ≡ Ok (printed_lines tb types vs ++ following)
ReportsEnded tb types room following s given (M.Trap kind line col) e = e ≡ Err (F.Trap kind line col)
ReportsEnded tb types room following s given M.Out e = e ≡ Err (F.OutOfCalls room.calls)
ReportsEnded tb types room following s given M.Deep e = e ≡ Err (F.OutOfFrames room.frames)
