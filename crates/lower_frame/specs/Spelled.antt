-- It serves the proof that the code of a source has a file: what is lowered can be encoded. Each instruction of a
-- function has a text, and so has each kind of its label maps; instructions and maps are so few that four bytes hold
-- how many.
--
-- Ret [0] is encoded, by the bytes 14, 1, 0 and 0. Ret of 300 registers isn't, since their count is in one byte.
use Rattle.std.specs.Prelude.{◌≡◌, ◌<◌, ℕ, true, List, length, Option, Some, is_some, slice_get}
use Rattle.cell_code.specs.declared.kind.Kind.{Kind}
use Rattle.cell_code.specs.declared.kind.Label.{Label}
use Rattle.cell_code.specs.declared.code.Instr.{Instr}
use Rattle.cell_code.specs.declared.code.Function.{Function}
use Rattle.code_file.specs.CodeText.{instr_text, kind_text}
use Rattle.cell_code.specs.Plain.{LabelMap}

-- there is a text
abbrev pub IsSpelt : Option (List ℕ) → Type 0
IsSpelt text = is_some text ≡ true

-- each of a label's kinds has a text
abbrev pub AreKindsSpelt : List Kind → Type 0
AreKindsSpelt ks = (r : ℕ) (k : Kind) → slice_get ks r ≡ Some k → IsSpelt (kind_text k)

-- each of the maps' kinds has a text
pub record AreMapsSpelt (ms : List LabelMap) : Type 0 where
  pub by : (i : ℕ) (m : LabelMap) → slice_get ms i ≡ Some m → AreKindsSpelt m.kinds

-- a function's instructions
pub record AreInstrsSpelt (xs : List Instr) : Type 0 where
  pub few : length xs < 4294967296
  pub each : (i : ℕ) (x : Instr) → slice_get xs i ≡ Some x → IsSpelt (instr_text x)

-- a function's labels
pub record AreLabelsSpelt (ls : List Label) : Type 0 where
  pub few : length ls < 4294967296
  pub each : (i : ℕ) (l : Label) → slice_get ls i ≡ Some l → (l.at < 4294967296) × AreKindsSpelt l.kinds.items

pub record IsFunctionSpelt (f : Function) : Type 0 where
  pub instrs : AreInstrsSpelt f.instrs.items
  pub labels : AreLabelsSpelt f.labels.items

-- each function of a code
abbrev pub AreSpelt : List Function → Type 0
AreSpelt fs = (i : ℕ) (f : Function) → slice_get fs i ≡ Some f → IsFunctionSpelt f
