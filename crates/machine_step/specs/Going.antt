-- Instructions that a machine does in one turn, against what the definition says comes next.
-- A run may test a register, take its cell apart and put the cell together again in one turn, so that the cell is
-- looked up once. From the state before the Test the definition's Test, Take and Put then lead to the state after the
-- turn.
use Rattle.std.specs.Prelude.{◌≡◌, ◌≢◌, ℕ, zero, suc, ◌%◌, ◌/◌, Bool, false, List, [], Some, None, slice_get}
use Rattle.cell_code.specs.declared.code.Instr.{Instr}
use Rattle.cell_code.specs.declared.kind.Kind.{Kind}
use Rattle.cell_store.specs.Cells.{Cells, cell_at}
use Rattle.code_verify.specs.Checked.{Checked}
use Rattle.cell_code.specs.Plain.{PlainCode, plain}
use Rattle.machine_frames.specs.machine_semantics.Cells.{Store}
use Rattle.machine_frames.specs.machine_semantics.States.{Typed, State, Next}
use Rattle.machine_frames.specs.machine_semantics.Steps.{Kinds, act, next}
use Rattle.machine_cells.specs.Small.{IsSmall}
use Rattle.machine_step.specs.declared.cursor.Bounds.{Bounds}
use Rattle.machine_step.specs.declared.cursor.Cursor.{Cursor}
use Rattle.machine_step.specs.declared.rows.Stepped.{Stepped}
use Rattle.machine_step.specs.declared.rows.Stepped.TheVariants as S
use Rattle.machine_step.specs.Coming.{Comes}
use Rattle.machine_step.specs.View.{state_of}

-- So many instructions, each of which went, lead from the old state to the new one.
abbrev pub Lead : Kinds → PlainCode → ℕ → State → State → Type 0
Lead kinds code zero old new = new ≡ old
Lead kinds code (suc n) old new =
    (mid : State) × Lead kinds code n old mid × Comes mid (next kinds code mid) S.Went new []

-- Some instructions do, or none.
abbrev pub HasGone : Kinds → PlainCode → State → State → Type 0
HasGone kinds code old new = (n : ℕ) × Lead kinds code n old new

-- What came next is this answer; and where an instruction went, some more may have gone after it.
pub record ComesWithMore (kinds : Kinds) (code : PlainCode) (old : State) (x : Next) (r : Stepped) (new : State)
    (given : List ℕ) : Type 0 where
  pub mid : State
  pub comes : Comes old x r mid given
  pub more : HasGone kinds code mid new
  pub last : r ≢ S.Went → new ≡ mid

-- Where registers have these kinds, the instruction was done as the definition says, and more may have gone after it in
-- a loop.
abbrev pub IsDone : Bool → Checked → Bounds → Kinds → Instr → List Kind → Store → List ℕ → Cursor → Stepped → Store →
    List ℕ → Cursor → List ℕ → Type 0
IsDone loop v b kinds x ks s ws c r t us d given = (lent : List Typed) →
    (m : ComesWithMore kinds (plain v.code) (state_of v b lent s ws c)
    (act (plain v.code) ks (state_of v b lent s ws c) x) r (state_of v b lent t us d) given)
    × (loop ≡ false → state_of v b lent t us d ≡ m.mid)

-- The next instruction was, and more may have gone after it.
abbrev pub IsReportedWithMore : Checked → Bounds → Kinds → Store → List ℕ → Cursor → Stepped → Store → List ℕ → Cursor →
    List ℕ → Type 0
IsReportedWithMore v b kinds s ws c r t us d given = (lent : List Typed) → ComesWithMore kinds (plain v.code)
    (state_of v b lent s ws c) (next kinds (plain v.code) (state_of v b lent s ws c)) r (state_of v b lent t us d) given

-- Some instructions went, and changed this store and these words to others.
abbrev pub IsGone : Checked → Bounds → Kinds → Store → List ℕ → Cursor → Store → List ℕ → Cursor → Type 0
IsGone v b kinds s ws c t us d = (lent : List Typed) →
    HasGone kinds (plain v.code) (state_of v b lent s ws c) (state_of v b lent t us d)

-- Register r of these has a word that names a cell, and if there is such a cell it is at place p.
pub record Names (cells : Cells) (ws : List ℕ) (r p : ℕ) : Type 0 where
  pub word : ℕ
  pub is : slice_get ws r ≡ Some word
  pub odd : word % 2 ≢ 0
  pub place : IsSmall cells → cell_at cells (word / 2) ≢ None → p ≡ word / 2
