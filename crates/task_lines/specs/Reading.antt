-- For private contracts alone: what stands in the brackets of a line, and where the values stand that were read.
use Rattle.std.specs.Prelude.{◌≡◌, ◌≢◌, ◌<◌, ◌≤◌, ◌+◌, ◌-◌, ◌^◌, ℕ, zero, suc, List, [], ◌∷◌, length, drop}
use Rattle.std.specs.Prelude.{Some, slice_get, slice_index_or}
use Rattle.cell_code.specs.declared.code.Code.{Code}
use Rattle.cell_code.specs.declared.code.Function.{Function}
use Rattle.fip_language.specs.declared.limits.TheConstants.{MOST_FIELDS}
use Rattle.fip_language.specs.Every.{Every}
use Rattle.fip_language.specs.SoundTable.{IsSoundTable, AreTypes}
use Rattle.fip_language.specs.Table.{Table}
use Rattle.fip_language.specs.Values.{Value, Values, End, More}
use Rattle.value_text.specs.Loaded.{types_of}
use Rattle.value_text.specs.Single.{BeginsWith, IsValueAt}
use Rattle.value_text.specs.declared.counts.Counts.{Counts}
use Rattle.session_lines.specs.session_semantics.Lines.{Symbol, Open, Close, Comma, Written, WrittenText, SignText, skip, symbols}
use Rattle.session_lines.specs.session_semantics.Typed.{IsValue}
use Rattle.session_lines.specs.declared.scan.Scanner.{Scanner}
use Rattle.session_values.specs.Read.{IsTextOf}
use Rattle.session_values.specs.Readable.{IsLine}
use Rattle.task_lines.specs.Called.{Called}
use Rattle.task_lines.specs.declared.task_line.TaskLine.{TaskLine}

-- the bracket closes, and the line ends
abbrev pub Closes : List Symbol → Type 0
Closes cs = (rest : List Symbol) × SignText Close cs rest × (skip rest ≡ [])

-- the values after a value
abbrev pub Further : Table → List ℕ → List Symbol → Values → Type 0
Further tb [] cs End = Closes cs
Further tb [] cs (More v vs) = ⊥
Further tb (k ∷ ks) cs End = ⊥
Further tb (k ∷ ks) cs (More v vs) = (next : List Symbol) × (after : List Symbol)
    × SignText Comma cs next × IsTextOf tb k next v after × Further tb ks after vs

-- all values in the brackets
abbrev pub Given : Table → List ℕ → List Symbol → Values → Type 0
Given tb [] cs End = Closes cs
Given tb [] cs (More v vs) = ⊥
Given tb (k ∷ ks) cs End = ⊥
Given tb (k ∷ ks) cs (More v vs) = (after : List Symbol) × IsTextOf tb k cs v after × Further tb ks after vs

-- the values after the first n
abbrev pub After : ℕ → Table → List ℕ → List Symbol → Values → Type 0
After zero tb ks cs vs = Given tb ks cs vs
After (suc n) tb ks cs vs = Further tb ks cs vs

-- after its name the function is called on these values
abbrev pub IsCalled : Code → List Symbol → Function → Values → Type 0
IsCalled code cs f vs = (inner : List Symbol) × SignText Open cs inner × Given code.types (types_of f.params) inner vs

-- each value stands at its place
abbrev pub AreAt : Table → List ℕ → List ℕ → List ℕ → Values → Type 0
AreAt tb bytes [] [] End = Unit {0}
AreAt tb bytes (k ∷ ks) (p ∷ ps) (More v vs) =
    (p ≤ length bytes) × BeginsWith tb k (drop p bytes) v × AreAt tb bytes ks ps vs
AreAt tb bytes ks ps vs = ⊥

-- the scanner is at a place of these bytes
pub record IsAt (line : List ℕ) (s : Scanner) : Type 0 where
  pub bytes : s.bytes.now ≡ line
  pub within : s.at ≤ length line

-- the value of parameter i stands next from a place on, at place p, with a comma before it unless it is the first, and
-- ends at a place
pub record IsNext (tb : Table) (i ty : ℕ) (bytes : List ℕ) (at p : ℕ) (v : Value) (end : ℕ) : Type 0 where
  pub within : p ≤ length bytes
  pub first : i ≡ 0 → p ≡ at
  pub further : 0 < i → SignText Comma (symbols (drop at bytes)) (symbols (drop p bytes))
  pub value : IsValueAt tb ty bytes p v end

-- The line was read as this call.
pub record IsLineOf (code : Code) (t : TaskLine) (c : Called) : Type 0 where
  pub entry : t.entry ≡ c.entry
  pub there : slice_get code.functions.items c.entry ≡ Some c.function
  pub line : IsLine t.bytes.now
  pub at : AreAt code.types t.bytes.now (types_of c.function.params) t.values.items c.values

abbrev pub AreLinesOf : Code → List TaskLine → List Called → Type 0
AreLinesOf code [] [] = Unit {0}
AreLinesOf code (t ∷ ts) (c ∷ cs) = IsLineOf code t c × AreLinesOf code ts cs
AreLinesOf code ts cs = ⊥
