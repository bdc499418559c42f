-- Only what this crate keeps: the root of a borrowed register is kept as a name of the register that owns the tree, so
-- that another register can become the owner of all that is borrowed from one.
use Rattle.std.specs.Prelude.{◌≡◌, ℕ, List, Option, Some, None, length, slice_get, ◌==◌, if◌then◌else◌}
use Rattle.cell_code.specs.declared.kind.Kind.{Kind}
use Rattle.cell_code.specs.declared.kind.Kind.TheVariants.{Gone, Scalar, Owned, Lent, Credit}

abbrev pub number_or : ℕ → Option ℕ → ℕ
number_or n None = n
number_or n (Some o) = o

-- the register of a name, or the name of a register; past the end of a list each number stands for itself
abbrev pub number_at : List ℕ → ℕ → ℕ
number_at os n = number_or n (slice_get os n)

abbrev pub root_by : (ℕ → ℕ) → Option ℕ → Option ℕ
root_by f None = None
root_by f (Some r) = Some (f r)

-- the same with another number for the root
abbrev pub rooted : (ℕ → ℕ) → Kind → Kind
rooted f Gone = Gone
rooted f (Scalar t) = Scalar t
rooted f (Owned t s) = Owned t s
rooted f (Lent t s root from) = Lent t s (root_by f root) from
rooted f (Credit k) = Credit k

-- Each of two numbers stands for the other.
abbrev pub swapped : ℕ → ℕ → ℕ → ℕ
swapped a b r = if r == a then b else (if r == b then a else r)

-- registers of names, and names of registers, for so many registers
pub record AreNames (count : ℕ) (owners names : List ℕ) : Type 0 where
  pub owners_long : length owners ≡ count
  pub names_long : length names ≡ count
  pub named : (r : ℕ) → number_at owners (number_at names r) ≡ r
  pub owned : (n : ℕ) → number_at names (number_at owners n) ≡ n
