-- What is looked up of the variables of an instance: words for the private fields of `Uses`.
use Rattle.std.specs.Prelude.{◌≡◌, ℕ, Bool, true, false, ◌==◌, List, length, map, get_or, slice_get, Option, Some, None}
use Rattle.fip_trees.specs.Tree.{Instance}
use Rattle.fip_rules.specs.World.{World}
use Rattle.derivation_walk.specs.declared.found.Bound.{Bound}
use Rattle.derivation_walk.specs.declared.tables.Uses.{Uses}
use Rattle.derivation_walk.specs.Seen.{see_instance}
use Rattle.derivation_walk.specs.Tables.{numbers_of, rows, row_at, rows_from, empty_rows, has_within}

-- the number of the variable of a binder
abbrev pub number_at : Uses → ℕ → ℕ
number_at u x = get_or u.numbers.items x 0

-- the variable of a number
abbrev pub variable_at : Uses → ℕ → Option Bound
variable_at u n = slice_get u.variables.items n

abbrev pub scalar_of : Option Bound → Bool
scalar_of None = true
scalar_of (Some v) = v.is_scalar

abbrev pub is_scalar_at : Uses → ℕ → Bool
is_scalar_at u n = scalar_of (variable_at u n)

abbrev pub bound_by : Option Bound → ℕ → Bool
bound_by None x = false
bound_by (Some v) x = v.binder == x

abbrev pub is_bound_by : Uses → ℕ → ℕ → Bool
is_bound_by u n x = bound_by (variable_at u n) x

abbrev pub within_of : List (List ℕ) → ℕ → ℕ → Option Bound → Bool
within_of rs first end None = false
within_of rs first end (Some v) = has_within first end (row_at rs v.binder)

-- whether a variable is used up, and whether it occurs, in an expression from first to before end
abbrev pub uses_at : Uses → ℕ → ℕ → ℕ → Bool
uses_at u n first end = within_of (rows u.used.items) first end (variable_at u n)

abbrev pub occurs_at : Uses → ℕ → ℕ → ℕ → Bool
occurs_at u n first end = within_of (rows u.occurring.items) first end (variable_at u n)

-- the tables of what is found in an instance
pub record IsOf (w : World) (d : Instance) (u : Uses) : Type 0 where
  pub variables : u.variables.items ≡ (see_instance w d).variables
  pub numbers : u.numbers.items ≡ numbers_of (see_instance w d).variables
  pub occurring : rows u.occurring.items
      ≡ rows_from true (empty_rows (length (see_instance w d).variables)) (see_instance w d).occurrences
  pub used : rows u.used.items
      ≡ rows_from false (empty_rows (length (see_instance w d).variables)) (see_instance w d).occurrences
