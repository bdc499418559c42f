-- Functions by name. In a code whose functions are `rev` and one without a name, function 0 has the name `rev`.
use Rattle.std.specs.Prelude.{◌≡◌, ℕ, List, Some, slice_get}
use Rattle.cell_code.specs.declared.code.Function.{Function}

-- The function with this number has this name.
abbrev pub IsNamed : List Function → List ℕ → ℕ → Type 0
IsNamed fs name n = (f : Function) × (slice_get fs n ≡ Some f) × (f.name ≡ name)
