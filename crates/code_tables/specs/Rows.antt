-- For the proofs alone: what is required of the rows of a table, as tests along its lists.
use Rattle.std.specs.Prelude.{ℕ, Bool, true, false, ◌&&◌, not, List, [], ◌∷◌, length, nat_lt, codes}
use Rattle.std.specs.Str.{bytes_eq}
use Rattle.fip_language.specs.Table.{Table, Shape, no_fields}
use Rattle.code_rules.specs.Headers.{are_types}
use Rattle.code_rules.specs.Limits.{most_fields}
use Rattle.code_tables.specs.Apart.{none_met, is_any_name, apart, shape_names}

abbrev pub is_bare : List ℕ → Shape → Bool
is_bare name s = bytes_eq s.name name && no_fields s.fields

abbrev pub is_bool_row : List Shape → Bool
is_bool_row [] = false
is_bool_row (s ∷ []) = false
is_bool_row (s ∷ r ∷ []) = is_bare (codes "False") s && is_bare (codes "True") r
is_bool_row (s ∷ r ∷ q ∷ qs) = false

abbrev pub is_narrow : Table → Shape → Bool
is_narrow w s = not (nat_lt most_fields (length s.fields)) && are_types w s.fields

abbrev pub are_narrow : Table → List Shape → Bool
are_narrow w [] = true
are_narrow w (s ∷ ss) = is_narrow w s && are_narrow w ss

abbrev pub is_sound_row : Table → List Shape → Bool
is_sound_row w [] = false
is_sound_row w (s ∷ ss) = are_narrow w (s ∷ ss) && apart is_any_name none_met (shape_names (s ∷ ss))

abbrev pub are_sound_rows : Table → List (List Shape) → Bool
are_sound_rows w [] = true
are_sound_rows w (row ∷ rows) = is_sound_row w row && are_sound_rows w rows
