-- What is known before each instruction of a function, and how one instruction goes on to another.
--
-- At a label the kinds of its map hold, whatever comes. Before instruction 0 the kinds at the entry are known. Before
-- another without a label those are known that the one before it leaves, where that is as required. So an instruction
-- after Tail, Ret or Jump without a label is never reached, nor is one after an instruction that breaks S1, S2 or S3,
-- up to the next label.
use Rattle.std.specs.Prelude.{◌≡◌, ◌⊎◌, ℕ, zero, suc, Bool, true, ◌&&◌, List, Option, Some, None, slice_get}
use Rattle.cell_code.specs.declared.code.Instr.{Instr}
use Rattle.cell_code.specs.declared.kind.Kind.{Kind}
use Rattle.cell_code.specs.Plain.{PlainFunction, PlainCode}
use Rattle.code_rules.specs.Codes.{label_at}
use Rattle.code_rules.specs.Entry.{entry}
use Rattle.code_rules.specs.Ranges.{in_range}
use Rattle.code_rules.specs.Asked.{sources, destinations}
use Rattle.code_rules.specs.Leaves.{Leaves, Jumps}

-- It breaks none of S1, S2 and S3.
abbrev pub is_as_asked : PlainCode → PlainFunction → ℕ → List Kind → Instr → Bool
is_as_asked c f i ks x = in_range c f i x && (sources c f ks x && destinations c ks x)

abbrev pub IsInstr : PlainFunction → ℕ → Instr → Type 0
IsInstr f i x = slice_get f.instrs i ≡ Some x

-- The kinds of a label map hold, or else those that come.
abbrev pub Holds : Option (List Kind) → (List Kind → Type 0) → List Kind → Type 0
Holds None Comes ks = Comes ks
Holds (Some m) Comes ks = ks ≡ m

-- These kinds reach instruction i from the one before it.
abbrev pub Comes : PlainCode → PlainFunction → ℕ → List Kind → Type 0
Comes c f zero ks = ks ≡ entry c f
Comes c f (suc i) ks =
    (before : List Kind) × (x : Instr) × Holds (label_at f.labels i) (Comes c f i) before × IsInstr f i x
    × (is_as_asked c f i before x ≡ true) × Leaves c before x ks

-- These kinds are known before instruction i.
abbrev pub KnownAt : PlainCode → PlainFunction → ℕ → List Kind → Type 0
KnownAt c f i ks = Holds (label_at f.labels i) (Comes c f i) ks

-- Instruction i is reached with these kinds.
pub record IsReachedAt (c : PlainCode) (f : PlainFunction) (i : ℕ) (ks : List Kind) (x : Instr) : Type 0 where
  pub known : KnownAt c f i ks
  pub instr : IsInstr f i x

-- Instruction i, which is as required, goes on to instruction j with these kinds.
pub record GoesTo (c : PlainCode) (f : PlainFunction) (i j : ℕ) (left : List Kind) : Type 0 where
  pub kinds : List Kind
  pub instr : Instr
  pub reached : IsReachedAt c f i kinds instr
  pub asked : is_as_asked c f i kinds instr ≡ true
  pub goes : ((j ≡ suc i) × Leaves c kinds instr left) ⊎ Jumps kinds instr j left
