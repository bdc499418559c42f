-- It serves the proofs on lowered code: the labels of a code that is being written. A label is a number that gets its
-- place once. What is known of the registers is reported at places that rise, in the place of what was reported there
-- before; at the first instruction of a function nothing is reported, since no other goes there.
-- Where maps are at 3 and 5, a map that is reported at 5 takes the place of the second, and one at 7 is after both.
use Rattle.std.specs.Prelude.{◌≡◌, ◌≤◌, ◌<◌, ◌-◌, ◌==◌, ℕ, zero, suc, Bool, true, false, List, [], ◌∷◌, ◌++◌}
use Rattle.std.specs.Prelude.{Option, Some, None, is_some, length, take, slice_get, if◌then◌else◌}
use Rattle.cell_code.specs.declared.kind.Kind.{Kind}
use Rattle.cell_code.specs.Plain.{LabelMap}
use Rattle.lowering_relation.specs.code_rules.Codes.{label_at}
use Rattle.lowering_relation.specs.Known.{joined}
use Rattle.lowering_relation.specs.Written.{Written}

-- how many labels there are
abbrev pub labels : Written → ℕ
labels w = length w.places

-- how many have a place
abbrev pub placed : List (Option ℕ) → ℕ
placed [] = 0
placed (None ∷ ps) = placed ps
placed (Some p ∷ ps) = suc (placed ps)

abbrev pub stands_at : ℕ → Option LabelMap → Bool
stands_at p None = false
stands_at p (Some m) = m.at == p

-- the last map goes, where it is at p
abbrev pub untold : ℕ → List LabelMap → List LabelMap
untold p ms = if stands_at p (slice_get ms (length ms - 1)) then take (length ms - 1) ms else ms

-- these kinds are reported at p
abbrev pub telling : ℕ → List Kind → List LabelMap → List LabelMap
telling zero ks ms = ms
telling (suc p) ks ms = untold (suc p) ms ++ record { at = suc p; kinds = ks } ∷ []

-- the places of maps rise, above `low` and up to `high`
abbrev pub Rising : ℕ → ℕ → List LabelMap → Type 0
Rising high low [] = Unit {0}
Rising high low (m ∷ ms) = (low < m.at) × (m.at ≤ high) × Rising high m.at ms

-- A map is where a label has its place, but for the first instruction.
pub record HaveMaps (ps : List (Option ℕ)) (ms : List LabelMap) : Type 0 where
  pub by : (label p : ℕ) → joined (slice_get ps label) ≡ Some p → 0 < p → is_some (label_at ms p) ≡ true
