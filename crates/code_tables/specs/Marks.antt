-- For the proofs alone: marks for int and each data type. A marked type has a value; where no further type has a
-- constructor with only fields of marked types, the marks are closed, and no other type has a value.
use Rattle.std.specs.Prelude.{◌≡◌, ℕ, suc, ◌+◌, ◌<◌, ◌≤◌, Bool, true, false, ◌&&◌, ◌||◌, List, [], ◌∷◌, length}
use Rattle.std.specs.Prelude.{Option, Some, None, slice_get, if◌then◌else◌}
use Rattle.fip_language.specs.Table.{Table, Shape, constructors, HasType}
use Rattle.fip_language.specs.Values.{Value}
use Rattle.code_rules.specs.Tables.{IsShape}

abbrev pub mark_or_not : Option Bool → Bool
mark_or_not None = false
mark_or_not (Some b) = b

abbrev pub is_marked : List Bool → ℕ → Bool
is_marked marks t = mark_or_not (slice_get marks t)

abbrev pub all_marked : List Bool → List ℕ → Bool
all_marked marks [] = true
all_marked marks (t ∷ ts) = is_marked marks t && all_marked marks ts

-- one of these constructors has only fields of marked types
abbrev pub has_marked : List Bool → List Shape → Bool
has_marked marks [] = false
has_marked marks (s ∷ ss) = all_marked marks s.fields || has_marked marks ss

abbrev pub all_true : List Bool → Bool
all_true [] = true
all_true (b ∷ bs) = b && all_true bs

abbrev pub unmarked : List Bool → ℕ
unmarked [] = 0
unmarked (b ∷ bs) = (if b then 0 else 1) + unmarked bs

-- the types of the fields of constructor k of type t
abbrev pub IsFieldsOf : Table → ℕ → ℕ → List ℕ → Type 0
IsFieldsOf w t k fs = (s : Shape) × IsShape w t k s × (fs ≡ s.fields)

abbrev pub HasValue : Table → ℕ → Type 0
HasValue w t = (v : Value) × HasType w t v

pub record AreMarks (w : Table) (marks : List Bool) : Type 0 where
  pub size : length marks ≡ suc (length w)
  pub int : is_marked marks 0 ≡ true
  pub valued : (t : ℕ) → is_marked marks t ≡ true → HasValue w t

abbrev pub IsClosedAt : Table → List Bool → ℕ → Type 0
IsClosedAt w marks t = has_marked marks (constructors w t) ≡ true → is_marked marks t ≡ true

abbrev pub IsClosed : Table → List Bool → Type 0
IsClosed w marks = (t : ℕ) → 0 < t → t ≤ length w → IsClosedAt w marks t

-- each type has a value
abbrev pub HaveValues : Table → Type 0
HaveValues w = (t : ℕ) → 0 < t → t ≤ length w → HasValue w t
