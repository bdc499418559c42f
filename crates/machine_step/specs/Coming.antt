-- What a step ended in, against what the definition says comes next. Where the definition says nothing comes, nothing
-- is said: of sound code this never happens.
use Rattle.std.specs.Prelude.{◌≡◌, ℕ, List, Some, slice_get}
use Rattle.cell_code.specs.declared.code.Instr.{Instr}
use Rattle.cell_code.specs.declared.code.Instr.TheVariants as I
use Rattle.cell_code.specs.declared.kind.Kind.{Kind}
use Rattle.cell_code.specs.Plain.{plain}
use Rattle.code_verify.specs.Checked.{Checked, ReleasesAt}
use Rattle.machine_frames.specs.machine_semantics.Codes.{instr_at}
use Rattle.machine_frames.specs.machine_semantics.Cells.{Store}
use Rattle.machine_frames.specs.machine_semantics.States.{Typed, State, Next, Went, Entered, Gave, Trapped, TooDeep, Stuck}
use Rattle.machine_frames.specs.machine_semantics.Rows.{owned_type}
use Rattle.machine_frames.specs.machine_semantics.Steps.{Kinds, act, next}
use Rattle.machine_step.specs.declared.cursor.Bounds.{Bounds}
use Rattle.machine_step.specs.declared.cursor.Cursor.{Cursor}
use Rattle.machine_step.specs.declared.rows.Stepped.{Stepped}
use Rattle.machine_step.specs.declared.rows.Stepped.TheVariants as S
use Rattle.machine_step.specs.View.{state_of}

-- From the old state, what comes next is this answer, with this state and these words of results after it. The end of a
-- run changes no state.
abbrev pub Comes : State → Next → Stepped → State → List ℕ → Type 0
Comes old (Went t) r new given = (r ≡ S.Went) × (new ≡ t)
Comes old (Entered t) r new given = (r ≡ S.Entered) × (new ≡ t)
Comes old (Gave vs) r new given = (r ≡ S.Value) × (new ≡ old) × (given ≡ vs)
Comes old (Trapped kind line col) r new given = (r ≡ S.Trap kind line col) × (new ≡ old)
Comes old TooDeep r new given = (r ≡ S.Deep) × (new ≡ old)
Comes old Stuck r new given = Unit {0}

-- the state where the running function goes on at instruction i, with these words of its registers
abbrev pub moved : ℕ → List ℕ → State → State
moved i ws s = record s { running = record { function = s.running.function; at = i; words = ws } }

-- Where registers have these kinds, the instruction was done as the definition says.
abbrev pub IsNext : Checked → Bounds → Instr → List Kind → Store → List ℕ → Cursor → Stepped → Store → List ℕ → Cursor →
    List ℕ → Type 0
IsNext v b x ks s ws c r t us d given = (lent : List Typed) → Comes (state_of v b lent s ws c)
    (act (plain v.code) ks (state_of v b lent s ws c) x) r (state_of v b lent t us d) given

-- The next instruction was.
abbrev pub IsReported : Checked → Bounds → Kinds → Store → List ℕ → Cursor → Stepped → Store → List ℕ → Cursor → List ℕ →
    Type 0
IsReported v b kinds s ws c r t us d given = (lent : List Typed) → Comes (state_of v b lent s ws c)
    (next kinds (plain v.code) (state_of v b lent s ws c)) r (state_of v b lent t us d) given

-- What a Drop releases, by the kinds, is what the verifier knows.
abbrev pub KnowsDrop : Checked → Cursor → Instr → List Kind → Type 0
KnowsDrop v c x ks = (r t : ℕ) → x ≡ I.Drop r → owned_type (slice_get ks r) ≡ Some t →
    ReleasesAt (plain v.code) c.function c.at t

-- So it is of the Drop, if it is one, that is instruction i of function f.
abbrev pub KnowsAt : Checked → Kinds → ℕ → ℕ → Type 0
KnowsAt v kinds f i = (r t : ℕ) → instr_at (plain v.code) f i ≡ Some (I.Drop r) →
    owned_type (slice_get (kinds f i) r) ≡ Some t → ReleasesAt (plain v.code) f i t
