-- Scaffolding of private contracts: what a writer holds, and what it holds after a text more.
use Rattle.std.specs.Prelude.{◌≡◌, ℕ, ◌-◌, nat_le, if◌then◌else◌, List, ◌++◌, length, Option, Some, None}
use Rattle.std.specs.Prelude.{Result, Ok, Err}
use Rattle.cell_code.specs.declared.kind.Label.{Label}
use Rattle.cell_code.specs.declared.code.Function.{Function}
use Rattle.code_file.specs.declared.tags.Version.TheVariants.{Second}
use Rattle.cell_code.specs.Plain.{plain_label, plain_function}
use Rattle.code_file.specs.CodeText.{label_text, function_text}
use Rattle.code_file.specs.declared.error.WriteError.{WriteError}
use Rattle.code_file.specs.declared.error.WriteError.TheVariants as E

-- the bytes that were written, and the most that there may be
pub record Written : Type 0 where
  pub bytes : List ℕ
  pub limit : ℕ

-- A text goes after what was written, where there is one and it has room.
unfoldable pub after : Written → Option (List ℕ) → Option Written
after w None = None
after w (Some text) =
    if nat_le (length text) (w.limit - length w.bytes) then Some (record { bytes = w.bytes ++ text; limit = w.limit })
    else None

-- what a function returned, and what the writer then holds
abbrev pub Writes : {X : Type 0} → Result X WriteError → Written → Option Written → Type 0
Writes (Ok x) new o = o ≡ Some new
Writes (Err E.NotSpelled) new o = o ≡ None
Writes (Err E.NoMemory) new o = Unit {0}

-- the texts of a function and of a label as they lie in memory
abbrev pub second_text : Function → Option (List ℕ)
second_text f = function_text Second (plain_function f)

abbrev pub label_in : ℕ → Label → Option (List ℕ)
label_in registers l = label_text registers (plain_label l)
