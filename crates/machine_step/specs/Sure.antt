-- That a run never reaches an instruction that can't be done, reported of one state and up to the next call. Who knows
-- it needs no test of the cells that words name.
-- From the state before a Test, a Take and a Put of one cell the three can be done, one after another: this is what is
-- required where the loop of a run does them in one turn.
use Rattle.std.specs.Prelude.{ℕ, Bool, [], List}
use Rattle.cell_code.specs.declared.code.Instr.{Instr}
use Rattle.cell_code.specs.declared.kind.Kind.{Kind}
use Rattle.cell_store.specs.Cells.{Cells}
use Rattle.code_verify.specs.Checked.{Checked}
use Rattle.cell_code.specs.Plain.{PlainCode, plain}
use Rattle.machine_frames.specs.machine_semantics.States.{Typed, State}
use Rattle.machine_frames.specs.machine_semantics.Steps.{Kinds, act, next}
use Rattle.machine_cells.specs.Small.{IsSmall, store_of}
use Rattle.machine_step.specs.declared.cursor.Bounds.{Bounds}
use Rattle.machine_step.specs.declared.cursor.Cursor.{Cursor}
use Rattle.machine_step.specs.declared.rows.Stepped.TheVariants as S
use Rattle.machine_step.specs.Coming.{Comes}
use Rattle.machine_step.specs.Going.{Lead}
use Rattle.machine_step.specs.Telling.{IsKnown}
use Rattle.machine_step.specs.View.{state_of}

-- Each instruction to which instructions that aren't calls lead can be done.
abbrev pub CanGo : Kinds → PlainCode → State → Type 0
CanGo kinds code s = (n : ℕ) (t : State) → Lead kinds code n s t → IsKnown (next kinds code t)

-- The instruction can be done, and each one after it.
pub record CanAct (kinds : Kinds) (code : PlainCode) (ks : List Kind) (s : State) (x : Instr) : Type 0 where
  pub known : IsKnown (act code ks s x)
  pub following : (t : State) → Comes s (act code ks s x) S.Went t [] → CanGo kinds code t

-- From this place of a run, over these cells.
pub record IsSure (v : Checked) (b : Bounds) (cells : Cells) (released : List Bool) (ws : List ℕ) (c : Cursor) : Type 0
  where
    pub small : IsSmall cells
    pub kinds : Kinds
    pub lent : List Typed
    pub goes : CanGo kinds (plain v.code) (state_of v b lent (store_of cells released) ws c)

-- With this instruction as the next one.
pub record IsSureOf (v : Checked) (b : Bounds) (x : Instr) (cells : Cells) (released : List Bool) (ws : List ℕ)
    (c : Cursor) : Type 0 where
  pub small : IsSmall cells
  pub kinds : Kinds
  pub before : List Kind
  pub lent : List Typed
  pub acts : CanAct kinds (plain v.code) before (state_of v b lent (store_of cells released) ws c) x
