-- For the proofs alone: whether names of a list that count are met once each, as a test along the list.
use Rattle.std.specs.Prelude.{ℕ, Bool, true, false, ◌&&◌, ◌||◌, not, List, [], ◌∷◌, map, if◌then◌else◌}
use Rattle.std.specs.Str.{bytes_eq}
use Rattle.std.specs.Cmp.Lexicographic.{slice_cmp}
use Rattle.std.specs.Ordering.{nat_cmp}
use Rattle.std.specs.BTreeSet.{BTreeSet, contains_by}
use denote.Ref.{Bor}
use Rattle.fip_language.specs.Table.{Shape}
use Rattle.cell_code.specs.declared.code.Function.{Function}

abbrev pub none_met : List ℕ → Bool
none_met x = false

-- the names of a set
abbrev pub met_in : BTreeSet (Bor (List ℕ)) → List ℕ → Bool
met_in s x = contains_by (λ k. slice_cmp nat_cmp x k.now) s

abbrev pub also_met : (List ℕ → Bool) → List ℕ → List ℕ → Bool
also_met met name x = bytes_eq name x || met x

abbrev pub is_any_name : List ℕ → Bool
is_any_name name = true

abbrev pub is_some_name : List ℕ → Bool
is_some_name [] = false
is_some_name (b ∷ bs) = true

abbrev pub apart : (List ℕ → Bool) → (List ℕ → Bool) → List (List ℕ) → Bool
apart counts met [] = true
apart counts met (n ∷ ns) =
    if counts n then (not (met n) && apart counts (also_met met n) ns) else apart counts met ns

abbrev pub shape_name : Shape → List ℕ
shape_name s = s.name

abbrev pub shape_names : List Shape → List (List ℕ)
shape_names = map shape_name

abbrev pub function_name : Function → List ℕ
function_name f = f.name

abbrev pub function_names : List Function → List (List ℕ)
function_names = map function_name
