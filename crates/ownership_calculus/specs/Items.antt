-- What an owned environment counts: how often it has a variable, and how many credits of a size.
use Rattle.std.specs.Prelude.{ℕ, zero, suc, List, [], ◌∷◌, Bool, ◌+◌, if◌then◌else◌, ◌==◌}
use Rattle.std.specs.List.{list_any}

-- what an owned environment counts: how often it has a variable, and how many credits of a size
pub data Item : Type 0 where
  Own : (x : ℕ) → Item
  Credit : (k : ℕ) → Item

abbrev pub has : List ℕ → ℕ → Bool
has xs x = list_any (λ y. y == x) xs

abbrev pub one : ℕ → ℕ → ℕ
one x y = if x == y then 1 else 0

-- x once, and nothing else
abbrev pub only : ℕ → Item → ℕ
only x (Own y) = one x y
only x (Credit k) = 0

-- the credit that a constructor of this size uses up; none where it has no field
abbrev pub paid : ℕ → Item → ℕ
paid zero i = 0
paid (suc n) (Own y) = 0
paid (suc n) (Credit k) = one (suc n) k

-- how often k is in a list of sizes
abbrev pub given : ℕ → List ℕ → ℕ
given k [] = 0
given k (j ∷ ks) = one j k + given k ks

-- the credits of a header, and no variable
abbrev pub charge : List ℕ → Item → ℕ
charge ks (Own y) = 0
charge ks (Credit k) = given k ks
