-- How many different keys there are. Of 3, 1, 3 there are two.
use Rattle.std.specs.Prelude.{ℕ, suc, Bool, true, false, ℤ, List, [], ◌∷◌, if◌then◌else◌}
use Rattle.std.specs.Ordering.{int_eq}

abbrev pub is_among : ℤ → List ℤ → Bool
is_among k [] = false
is_among k (x ∷ xs) = if int_eq k x then true else is_among k xs

-- a key that comes again later isn't counted
abbrev pub different : List ℤ → ℕ
different [] = 0
different (k ∷ ks) = if is_among k ks then different ks else suc (different ks)
