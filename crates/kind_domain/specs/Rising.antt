-- Only what this crate keeps: lists of constructors rise, so that they can be searched.
use Rattle.std.specs.Prelude.{ℕ, suc, ◌≤◌, ◌==◌, Bool, false, List, [], ◌∷◌, Option, Some, None, nat_lt, if◌then◌else◌}
use Rattle.code_rules.specs.Changes.{without}

-- They rise, and none is below a number.
abbrev pub RiseFrom : ℕ → List ℕ → Type 0
RiseFrom low [] = Unit {0}
RiseFrom low (x ∷ xs) = (low ≤ x) × RiseFrom (suc x) xs

abbrev pub Rise : List ℕ → Type 0
Rise xs = RiseFrom 0 xs

-- the numbers of a list but one, where there is one
abbrev pub less : Option ℕ → List ℕ → List ℕ
less None xs = xs
less (Some c) xs = without c xs

-- It is the one, where there is one.
abbrev pub is_one : Option ℕ → ℕ → Bool
is_one None x = false
is_one (Some c) x = x == c

-- what is after the first numbers that aren't greater
abbrev pub beyond : ℕ → List ℕ → List ℕ
beyond n [] = []
beyond n (x ∷ xs) = if nat_lt n x then x ∷ xs else beyond n xs
