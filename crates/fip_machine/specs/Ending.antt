-- How a run came out, against the run that the definition says: it ended so, in this state, with these words of
-- results. Where an instruction can't be done nothing is said: of sound code this never happens. rev of two items and
-- none, with 2 calls: the definition's run is over after 8 steps, out of calls, before the call that isn't left. So
-- the machine answers Out, and is before that call.
use Rattle.std.specs.Prelude.{◌≡◌, ℕ, List, [], None}
use Rattle.machine_step.specs.code_verify.Checked.{Checked}
use Rattle.cell_code.specs.Plain.{PlainCode, plain}
use Rattle.machine_cells.specs.machine_semantics.States.{Typed, State}
use Rattle.machine_cells.specs.machine_semantics.Steps.{Kinds}
use Rattle.machine_cells.specs.machine_semantics.Runs.{End, Value, Trap, Out, Deep, Unsound, Run, Going, Over, begun, after}
use Rattle.machine_cells.specs.Small.{IsSmall}
use Rattle.machine_step.specs.Coming.{KnowsAt}
use Rattle.fip_machine.specs.declared.machine.Ended.{Ended}
use Rattle.fip_machine.specs.declared.machine.Ended.TheVariants as M
use Rattle.fip_machine.specs.Tasks.{state_with}
use Rattle.fip_machine.specs.Machines.{Seen}

-- At each state of the run with so many calls, what a Drop releases by the kinds is what the verifier knows.
abbrev pub KnowsRun : Checked → Kinds → State → ℕ → Type 0
KnowsRun v kinds first calls = (n left steps : ℕ) (s : State) →
    after kinds (plain v.code) n (begun first calls) ≡ Going s left steps →
    KnowsAt v kinds s.running.function s.running.at

-- The end in a last state is what was answered, with the state and the words that are left then.
abbrev pub EndsAs : End → State → Ended → State → List ℕ → Type 0
EndsAs (Value ws) last e new given = (e ≡ M.Value) × (new ≡ last) × (given ≡ ws)
EndsAs (Trap kind line col) last e new given = (e ≡ M.Trap kind line col) × (new ≡ last)
EndsAs Out last e new given = (e ≡ M.Out) × (new ≡ last)
EndsAs Deep last e new given = (e ≡ M.Deep) × (new ≡ last)
EndsAs Unsound last e new given = Unit {0}

-- The run is over, and so.
abbrev pub IsOver : Run → Ended → State → List ℕ → Type 0
IsOver (Going s left n) e new given = ⊥
IsOver (Over end s left n) e new given = EndsAs end s e new given

-- The run from the first state, with so many calls, reaches this end.
abbrev pub RunsTo : Kinds → PlainCode → State → ℕ → Ended → State → List ℕ → Type 0
RunsTo kinds code first calls e new given = (n : ℕ) × IsOver (after kinds code n (begun first calls)) e new given

-- The machine is to run with so many calls, and never reaches an instruction that can't be done; what its Drops release
-- is what the verifier knows. So it is of sound code at a loaded state.
pub record IsSafeRun (m : Seen) (calls : ℕ) : Type 0 where
  pub going : m.stack.ended ≡ None
  pub small : IsSmall m.store.cells
  pub empty : m.pushed ≡ []
  pub kinds : Kinds
  pub lent : List Typed
  pub knows : KnowsRun m.stack.code kinds (state_with m.stack lent m.store) calls
  pub never : (n left steps : ℕ) (last : State) → after kinds (plain m.stack.code.code) n
      (begun (state_with m.stack lent m.store) calls) ≡ Over Unsound last left steps → ⊥
