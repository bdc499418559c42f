-- Constructors by number and by name.
use Rattle.std.specs.Prelude.{◌≡◌, ℕ, zero, suc, List, [], ◌∷◌, Some, slice_get}
use Rattle.fip_language.specs.Table.{Shape}

-- the fields of the constructor with this number
abbrev pub fields_at : List Shape → ℕ → List ℕ
fields_at [] c = []
fields_at (s ∷ ss) zero = s.fields
fields_at (s ∷ ss) (suc c) = fields_at ss c

-- The constructor with this number has this name.
abbrev pub IsNamed : List Shape → List ℕ → ℕ → Type 0
IsNamed ss name c = (s : Shape) × (slice_get ss c ≡ Some s) × (s.name ≡ name)
