-- Numbers of cells or credits by size: a list that has at place k the number of size k. Sizes are 1 to 16; place 0 is
-- of no use.
use Rattle.std.specs.Prelude.{ℕ, zero, suc, ◌+◌, ◌-◌, Bool, ◌&&◌, List, [], ◌∷◌, get_or, set, nat_lt}
use Rattle.std.specs.Prelude.{if◌then◌else◌}
pub use Rattle.fip_trees.specs.Numbers.{one_if, greater}

abbrev pub number : List ℕ → ℕ → ℕ
number xs k = get_or xs k 0

abbrev pub zeros : ℕ → List ℕ
zeros zero = []
zeros (suc n) = 0 ∷ zeros n

abbrev pub no_sizes : List ℕ
no_sizes = zeros 17

abbrev pub is_size : ℕ → Bool
is_size k = nat_lt 0 k && nat_lt k 17

-- one more of size k; nothing for a size that no cell has
abbrev pub one_more : ℕ → List ℕ → List ℕ
one_more k xs = if is_size k then set xs k (number xs k + 1) else xs

abbrev pub by_size : (ℕ → ℕ → ℕ) → List ℕ → List ℕ → List ℕ
by_size f [] ys = []
by_size f (x ∷ xs) [] = []
by_size f (x ∷ xs) (y ∷ ys) = f x y ∷ by_size f xs ys

-- of each size the sum, the difference (never below 0), the greater number
abbrev pub plus : List ℕ → List ℕ → List ℕ
plus xs ys = by_size (λ m n. m + n) xs ys

abbrev pub minus : List ℕ → List ℕ → List ℕ
minus xs ys = by_size (λ m n. m - n) xs ys

abbrev pub greatest : List ℕ → List ℕ → List ℕ
greatest xs ys = by_size greater xs ys
