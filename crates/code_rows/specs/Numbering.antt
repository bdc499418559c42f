-- For the rows, and for what is proved of verify over them: the number of the label map of each instruction, and the
-- form of the label maps of a function.
use Rattle.std.specs.Prelude.{◌≡◌, ℕ, ◌<◌, suc, ◌+◌, Bool, true, ◌&&◌, not, List, [], ◌∷◌, Option, Some, None}
use Rattle.std.specs.Prelude.{slice_get, get_or, length, drop, ◌==◌, nat_lt}
use Rattle.fip_language.specs.Table.{Table}
use Rattle.cell_code.specs.declared.kind.Label.{Label}
use Rattle.cell_code.specs.Plain.{LabelMap, PlainFunction}
use Rattle.code_rules.specs.Codes.{label_at}
use Rattle.code_rules.specs.Headers.{are_good_kinds, are_params, are_sizes, are_types}
use Rattle.code_rules.specs.Limits.{most_credits, most_results, most_registers}

-- Number j is that of the label map of instruction i, or that has none.
abbrev pub IsNumber : List LabelMap → ℕ → Option ℕ → Type 0
IsNumber maps i None = label_at maps i ≡ None
IsNumber maps i (Some j) = (m : LabelMap) × (slice_get maps j ≡ Some m) × (label_at maps i ≡ Some m.kinds)

-- The same among the label maps from number n on.
abbrev pub IsNumberFrom : List LabelMap → ℕ → ℕ → Option ℕ → Type 0
IsNumberFrom maps n i None = label_at (drop n maps) i ≡ None
IsNumberFrom maps n i (Some j) =
    (m : LabelMap) × (slice_get maps j ≡ Some m) × (label_at (drop n maps) i ≡ Some m.kinds)

-- For each of so many instructions the number of its label map.
pub record AreNumbers (maps : List LabelMap) (numbers : List (Option ℕ)) : Type 0 where
  pub within : (j : ℕ) (m : LabelMap) → slice_get maps j ≡ Some m → m.at < length numbers
  pub are : (i : ℕ) → i < length numbers → IsNumber maps i (get_or numbers i None)

-- Label map k says of each register what label map j says.
abbrev pub SaysAlike : List Label → ℕ → ℕ → Type 0
SaysAlike labels j k =
    (m : Label) → slice_get labels j ≡ Some m → (n : Label) × (slice_get labels k ≡ Some n) × (n.kinds.items ≡ m.kinds.items)

-- The label maps are at instructions below a number.
abbrev pub AreBelow : ℕ → List Label → Type 0
AreBelow n labels = (j : ℕ) (m : Label) → slice_get labels j ≡ Some m → m.at < n

-- a label map above a number, in the function, with a kind for each register
abbrev pub is_good_label : Table → PlainFunction → ℕ → Label → Bool
is_good_label w f low m =
    nat_lt low m.at &&
    (nat_lt m.at (length f.instrs) &&
    ((length m.kinds.items == f.registers) && are_good_kinds w m.kinds.items 0 m.kinds.items))

abbrev pub are_good_labels : Table → PlainFunction → ℕ → List Label → Bool
are_good_labels w f low [] = true
are_good_labels w f low (m ∷ ms) = is_good_label w f low m && are_good_labels w f m.at ms

-- parts of what is required of a header
abbrev pub has_registers : PlainFunction → Bool
has_registers f =
    not (length f.instrs == 0) &&
    (not (nat_lt f.registers (length f.params + length f.credits)) && nat_lt f.registers (suc most_registers))

abbrev pub has_few : PlainFunction → Bool
has_few f =
    not (length f.results == 0) &&
    (nat_lt (length f.results) (suc most_results) && nat_lt (length f.credits) (suc most_credits))

abbrev pub has_types : Table → PlainFunction → Bool
has_types w f = are_params w f.params && (are_sizes f.credits && are_types w f.results)
