-- For private contracts alone: a task at some moment of a run, and a recorder that kept the run until then.
use Rattle.std.specs.Prelude.{◌≡◌, ℕ, zero, suc, Bool, false}
use Rattle.cell_store.specs.Made.{Stored}
use Rattle.cell_trace.specs.declared.tape.Tape.{Tape}
use Rattle.cell_trace.specs.Traced.{standing_from}
use Rattle.cell_trace.specs.Taped.{Recorded, IsTape}
use Rattle.cell_code.specs.Plain.{plain}
use Rattle.machine_cells.specs.machine_semantics.Runs.{Run, Going, Over}
use Rattle.machine_step.specs.declared.rows.Stepped.{Stepped}
use Rattle.machine_step.specs.declared.rows.Stepped.TheVariants as S
use Rattle.fip_machine.specs.declared.machine.Ended.{Ended}
use Rattle.fip_machine.specs.declared.machine.Ended.TheVariants as M
use Rattle.fip_machine.specs.Tasks.{Stand}
use Rattle.fip_machine.specs.Along.{Origin, at_step, UnlessStuck, IsAlong, HasRun}
use Rattle.fip_machine.specs.Traces.{notes}

-- ---- a moment of a run, and something that is said of the number of steps until then

pub record AlongWith (X : ℕ → Type 0) (o : Origin) (t : Stand) (s : Stored) (left : ℕ) : Type 0 where
  pub along : IsAlong o t s left
  pub beside : X along.steps

-- of a run's end it is said where the run gives a value
abbrev pub IfValue : Ended → Type 0 → Type 0
IfValue M.Value P = P
IfValue (M.Trap kind line col) P = Unit {0}
IfValue M.Out P = Unit {0}
IfValue M.Deep P = Unit {0}

pub record RunWith (X : ℕ → Type 0) (o : Origin) (e : Ended) (t : Stand) (s : Stored) : Type 0 where
  pub run : HasRun o e t s
  pub beside : IfValue e (X run.0)

abbrev pub EnteredWith : (ℕ → Type 0) → Origin → ℕ → Bool → Stand → Stored → Type 0
EnteredWith X o zero call t s = call ≡ false → RunWith X o M.Out t s
EnteredWith X o (suc left) call t s = AlongWith X o t s left

abbrev pub DeepWith : (ℕ → Type 0) → Origin → ℕ → Bool → Stand → Stored → Type 0
DeepWith X o zero call t s = call ≡ false → RunWith X o M.Deep t s
DeepWith X o (suc left) call t s = RunWith X o M.Deep t s

-- what a step ended in
abbrev pub CameWith : (ℕ → Type 0) → Origin → ℕ → Bool → Stepped → Stand → Stored → Type 0
CameWith X o left call S.Went t s = AlongWith X o t s left
CameWith X o left call S.Entered t s = EnteredWith X o left call t s
CameWith X o left call S.Value t s = RunWith X o M.Value t s
CameWith X o left call (S.Trap kind line col) t s = RunWith X o (M.Trap kind line col) t s
CameWith X o left call S.Deep t s = DeepWith X o left call t s

-- ---- what a recorder kept until then

abbrev pub steps_of : Run → ℕ
steps_of (Going s left steps) = steps
steps_of (Over e s left steps) = steps

pub record Taped (o : Origin) (limit n : ℕ) (t : Tape) : Type 0 where
  pub count : steps_of (at_step o n) ≡ n
  pub tape : IsTape (standing_from 0 o.first.store.cells) (notes o.kinds (plain o.code.code) o.first o.calls n) n
      limit t

abbrev pub HasTape : Origin → ℕ → Tape → ℕ → Type 0
HasTape o limit t n = UnlessStuck (at_step o n) (Taped o limit n t)

abbrev pub AlongTaped : Origin → ℕ → Stand → Recorded → ℕ → Type 0
AlongTaped o limit t r left = AlongWith (HasTape o limit r.tape) o t r.store left

abbrev pub RunTaped : Origin → ℕ → Ended → Stand → Recorded → Type 0
RunTaped o limit e t r = RunWith (HasTape o limit r.tape) o e t r.store

abbrev pub CameTaped : Origin → ℕ → ℕ → Bool → Stepped → Stand → Recorded → Type 0
CameTaped o limit left call x t r = CameWith (HasTape o limit r.tape) o left call x t r.store

-- Nothing of the run is kept yet.
abbrev pub IsFirstTape : Origin → ℕ → Tape → Type 0
IsFirstTape o limit t =
    IsTape (standing_from 0 o.first.store.cells) (notes o.kinds (plain o.code.code) o.first o.calls 0) 0 limit t
