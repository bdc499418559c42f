-- What the calls tell of a code, of cells and of kept values, and what they write for the host.
use Rattle.std.specs.Prelude.{◌≡◌, ◌≢◌, ℕ, ◌+◌, ◌-◌, ◌*◌, ◌<◌, true, false, List, ◌++◌, Option}
use Rattle.std.specs.Prelude.{Some, None}
use Rattle.std.specs.Prelude.{length, take, drop, slice_get, slice_set, slice_index_or, if◌then◌else◌}
use Rattle.fip_base.specs.declared.plain.Stack.{Stack}
use Rattle.fip_machine.specs.cell_code.declared.code.Function.{Function}
use Rattle.fip_machine.specs.code_verify.Checked.{Checked}
use Rattle.cell_code.specs.Plain.{plain}
use Rattle.fip_machine.specs.code_verify.code_rules.Codes.{is_fip}
use Rattle.fip_machine.specs.code_verify.code_rules.StackNumbers.{HasStack}
use Rattle.fip_machine.specs.fip_language.Store.{Cell}
use Rattle.fip_machine.specs.fip_language.Table.{Shape}
use Rattle.fip_machine.specs.cell_store.Cells.{Cells, cell_at, IsAfter}
use Rattle.fip_machine.specs.machine_cells.machine_semantics.Cells.{Store}
use Rattle.fip_machine.specs.declared.gauge.Gauge.{Gauge}
use Rattle.fip_host.specs.declared.answer.FipFunction.{FipFunction}
use Rattle.fip_host.specs.declared.answer.FipGauge.{FipGauge}
use Rattle.fip_host.specs.declared.answer.FipCell.{FipCell}
use Rattle.fip_host.specs.declared.answer.FipArgument.{FipArgument}
use Rattle.fip_host.specs.declared.hosted.Kept.{Kept}

-- a buffer after bytes were written to it, as many as fit: 5 bytes with `rev` after `a` to `e` are `r`, `e`, `v`, `d`,
-- `e`
abbrev pub filled : List ℕ → List ℕ → List ℕ
filled old bytes = take (length old) bytes ++ drop (length bytes) old

-- how many bytes a text has
abbrev pub byte_count : List ℕ → ℕ
byte_count bytes = length bytes

-- how many fields a constructor has
abbrev pub field_count : Shape → ℕ
field_count s = length s.fields

abbrev pub frames_in : Option Stack → ℕ
frames_in None = 0
frames_in (Some s) = s.frames

abbrev pub words_in : Option Stack → ℕ
words_in None = 0
words_in (Some s) = s.words

-- what is reported of function n
pub record IsFunction (c : Checked) (n : ℕ) (t : FipFunction) : Type 0 where
  pub function : Function
  pub is : slice_get c.code.functions.items n ≡ Some function
  pub fip : t.fip ≡ is_fip function.kind
  pub parameters : t.parameters ≡ length function.params
  pub credits : t.credits ≡ length function.credits.items
  pub results : t.results ≡ length function.results
  pub stack : Option Stack
  pub has : HasStack (plain c.code) n stack
  pub frames : t.frames ≡ frames_in stack
  pub words : t.words ≡ words_in stack

-- The word is that of the cell at the place: twice the place and one more.
abbrev pub IsNamedBy : Cells → ℕ → Option ℕ → Type 0
IsNamedBy cells word None = (p : ℕ) → p < 4294967296 → word ≡ 2 * p + 1 → cell_at cells p ≡ None
IsNamedBy cells word (Some p) = (word ≡ 2 * p + 1) × (cell_at cells p ≢ None)

-- what is reported of the cell that a word names
pub record IsCell (s : Store) (word : ℕ) (t : FipCell) : Type 0 where
  pub place : ℕ
  pub named : word ≡ 2 * place + 1
  pub cell : Cell
  pub is : cell_at s.cells place ≡ Some cell
  pub tag : t.tag ≡ cell.tag
  pub size : t.size ≡ length cell.fields
  pub released : slice_get s.released place ≡ Some t.released

-- field i of the cell that a word names
pub record IsField (s : Store) (word i value : ℕ) : Type 0 where
  pub place : ℕ
  pub named : word ≡ 2 * place + 1
  pub cell : Cell
  pub is : cell_at s.cells place ≡ Some cell
  pub holds : slice_get cell.fields i ≡ Some value

-- the first cell after the one that a word names, or after none
pub record IsNext (cells : Cells) (word next : ℕ) : Type 0 where
  pub from : Option ℕ
  pub named : IsNamedBy cells word from
  pub place : ℕ
  pub is : next ≡ 2 * place + 1
  pub there : cell_at cells place ≢ None
  pub following : IsAfter from place
  pub first : (r : ℕ) → IsAfter from r → r < place → cell_at cells r ≡ None

-- No cell is after the one that a word names, or after none.
pub record IsLast (cells : Cells) (word : ℕ) : Type 0 where
  pub from : Option ℕ
  pub named : IsNamedBy cells word from
  pub none : (r : ℕ) → IsAfter from r → cell_at cells r ≡ None

-- The cell that a word names, which was live, is released.
pub record IsReleased (old new : Store) (word : ℕ) : Type 0 where
  pub place : ℕ
  pub named : word ≡ 2 * place + 1
  pub there : cell_at old.cells place ≢ None
  pub live : slice_get old.released place ≡ Some false
  pub cells : new.cells ≡ old.cells
  pub released : new.released ≡ slice_set old.released place true

abbrev pub flat : Option (Option Kept) → Option Kept
flat None = None
flat (Some o) = o

-- what is kept under a number
abbrev pub kept_at : List (Option Kept) → ℕ → Option Kept
kept_at ks n = flat (slice_get ks n)

-- the word of an argument: that of the kept value, or what is given
abbrev pub kept_word : Option Kept → ℕ
kept_word None = 0
kept_word (Some k) = k.word

abbrev pub argument_word : List (Option Kept) → FipArgument → ℕ
argument_word ks a = if a.kept then kept_word (kept_at ks a.value) else a.value

-- what is reported of the cells of one size, from 1 to 16, and of the stack
pub record ReportsSize (g : Gauge) (size : ℕ) (t : FipGauge) : Type 0 where
  pub lowest : t.lowest ≡ slice_index_or g.lowest (size - 1) 0
  pub highest : t.highest ≡ slice_index_or g.highest (size - 1) 0
  pub frames : t.frames ≡ g.frames
  pub words : t.words ≡ g.words
