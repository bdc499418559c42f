-- It serves the proof: the list that has for each data type without parameters its type.
use Rattle.std.specs.Prelude.{◌≡◌, ℕ, zero, suc, List, [], ◌∷◌, Option, None, slice_get, if◌then◌else◌}
use Rattle.type_check.specs.Found.{known, or_found}
use Rattle.type_check.specs.World.{is_number, narrow, numbered, plain_in}

abbrev pub IsPlain : List ℕ → List ℕ → List (Option ℕ) → Type 0
IsPlain arities declaring found = (d : ℕ) → known (slice_get found d) ≡ plain_in arities declaring 1 d

abbrev pub nothing_of : List ℕ → List (Option ℕ)
nothing_of [] = []
nothing_of (a ∷ as') = None ∷ nothing_of as'

-- no type, for 0 and for each data type
abbrev pub nothing : List ℕ → List (Option ℕ)
nothing as' = None ∷ nothing_of as'

-- a type put at a number where there is none
abbrev pub put_first : List (Option ℕ) → ℕ → Option ℕ → List (Option ℕ)
put_first [] d t = []
put_first (o ∷ os) zero t = or_found o t ∷ os
put_first (o ∷ os) (suc d) t = o ∷ put_first os d t

-- the same of a data type without parameters
abbrev pub put_plain : List ℕ → ℕ → ℕ → List (Option ℕ) → List (Option ℕ)
put_plain arities e n found = if is_number (numbered arities e) 0 then put_first found e (narrow n) else found
