-- Kinds: what is known of a register. It is Gone; or it is a scalar of a type; or it owns a tree of a type whose root
-- has one of some constructors; or it borrows such a tree, which lies in that of a register, its root, or, without one,
-- in a tree of a frame below, and may have come from a field of the cell in a register; or it is a credit, a cell of a
-- size whose fields are no longer owned.
--
-- A list of kinds has that of register r at place r. A register past its end is Gone.
use Rattle.std.specs.Prelude.{ℕ, Bool, true, false, ◌&&◌, ◌||◌, List, [], ◌∷◌, Option, Some, None, slice_get, ◌==◌}
use Rattle.cell_code.specs.declared.kind.From.{From}
use Rattle.cell_code.specs.declared.kind.Kind.{Kind}
use Rattle.cell_code.specs.declared.kind.Kind.TheVariants.{Gone, Scalar, Owned, Lent, Credit}

-- a number is in a list
abbrev pub has : List ℕ → ℕ → Bool
has [] x = false
has (y ∷ ys) x = (y == x) || has ys x

abbrev pub kind_or_gone : Option Kind → Kind
kind_or_gone None = Gone
kind_or_gone (Some k) = k

-- the kind of register r
abbrev pub at : List Kind → ℕ → Kind
at ks r = kind_or_gone (slice_get ks r)

-- It may be overwritten: it is neither owned nor a credit.
abbrev pub is_free : Kind → Bool
is_free Gone = true
is_free (Scalar t) = true
is_free (Owned t s) = false
is_free (Lent t s root from) = true
is_free (Credit k) = false

abbrev pub are_free : List Kind → Bool
are_free [] = true
are_free (k ∷ ks) = is_free k && are_free ks

abbrev pub is_gone : Kind → Bool
is_gone Gone = true
is_gone (Scalar t) = false
is_gone (Owned t s) = false
is_gone (Lent t s root from) = false
is_gone (Credit k) = false

-- a scalar of type u
abbrev pub is_scalar_of : ℕ → Kind → Bool
is_scalar_of u Gone = false
is_scalar_of u (Scalar t) = t == u
is_scalar_of u (Owned t s) = false
is_scalar_of u (Lent t s root from) = false
is_scalar_of u (Credit k) = false

abbrev pub is_owned : Kind → Bool
is_owned Gone = false
is_owned (Scalar t) = false
is_owned (Owned t s) = true
is_owned (Lent t s root from) = false
is_owned (Credit k) = false

-- an owned tree of type u
abbrev pub is_owned_of : ℕ → Kind → Bool
is_owned_of u Gone = false
is_owned_of u (Scalar t) = false
is_owned_of u (Owned t s) = t == u
is_owned_of u (Lent t s root from) = false
is_owned_of u (Credit k) = false

abbrev pub is_credit : Kind → Bool
is_credit Gone = false
is_credit (Scalar t) = false
is_credit (Owned t s) = false
is_credit (Lent t s root from) = false
is_credit (Credit k) = true

-- a credit of size n
abbrev pub is_credit_of : ℕ → Kind → Bool
is_credit_of n Gone = false
is_credit_of n (Scalar t) = false
is_credit_of n (Owned t s) = false
is_credit_of n (Lent t s root from) = false
is_credit_of n (Credit k) = k == n

-- the constructors that its root may have
abbrev pub set_of : Kind → List ℕ
set_of Gone = []
set_of (Scalar t) = []
set_of (Owned t s) = s
set_of (Lent t s root from) = s
set_of (Credit k) = []

-- where its word came from
abbrev pub from_of : Kind → Option From
from_of Gone = None
from_of (Scalar t) = None
from_of (Owned t s) = None
from_of (Lent t s root from) = from
from_of (Credit k) = None

-- the register that owns the tree that register r, of this kind, owns or reads
abbrev pub root_of : ℕ → Kind → Option ℕ
root_of r Gone = None
root_of r (Scalar t) = None
root_of r (Owned t s) = Some r
root_of r (Lent t s root from) = root
root_of r (Credit k) = None

abbrev pub same_root : Option ℕ → Option ℕ → Bool
same_root None None = true
same_root None (Some b) = false
same_root (Some a) None = false
same_root (Some a) (Some b) = a == b

-- It is borrowed, and its root is register r.
abbrev pub is_lent_of : ℕ → Kind → Bool
is_lent_of r Gone = false
is_lent_of r (Scalar t) = false
is_lent_of r (Owned t s) = false
is_lent_of r (Lent t s root from) = same_root root (Some r)
is_lent_of r (Credit k) = false
