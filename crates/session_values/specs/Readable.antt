-- What is required of a code and of a line, so that lines which call its functions can be read.
use Rattle.std.specs.Prelude.{◌≡◌, ◌≢◌, ◌≤◌, ◌^◌, ℕ, List, length, Some, slice_get}
use Rattle.cell_code.specs.declared.code.Code.{Code}
use Rattle.cell_code.specs.declared.code.Function.{Function}
use Rattle.fip_language.specs.Core.{Name}
use Rattle.fip_language.specs.Every.{Every}
use Rattle.fip_language.specs.SoundTable.{IsSoundTable, AreTypes}
use Rattle.fip_language.specs.Table.{Table}
use Rattle.value_text.specs.Loaded.{types_of, AreCredits}
use Rattle.session_lines.specs.Named.{HasName}

-- What is required of a code: a sound table, parameters of its types, credits that are sizes of cells, and that no two
-- functions have one name.
pub record IsReadable (code : Code) : Type 0 where
  pub table : IsSoundTable code.types
  pub known : (n : ℕ) (f : Function) → slice_get code.functions.items n ≡ Some f →
      AreTypes code.types (types_of f.params)
  pub credits : (n : ℕ) (f : Function) → slice_get code.functions.items n ≡ Some f → AreCredits f.credits.items
  pub names : (name : Name) (m n : ℕ) → HasName code.functions.items name m → HasName code.functions.items name n →
      m ≡ n

-- What is required of the bytes of a line: that no LF is among them, and that memory can hold them.
pub record IsLine (bytes : List ℕ) : Type 0 where
  pub one : Every (λ b. b ≢ 10) bytes
  pub short : length bytes ≤ 2 ^ 63

-- What is required of parameters: that they have types of a sound table.
pub record AreParams (tb : Table) (types : List ℕ) : Type 0 where
  pub table : IsSoundTable tb
  pub known : AreTypes tb types
