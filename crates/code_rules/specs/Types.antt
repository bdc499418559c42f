-- What the numbers of types mean for registers. Type 0 is int, type 1 bool, and a data type's constructors are numbered
-- from 0. A number that is no type's isn't scalar and has no constructors.
--
-- Of `data ints { Nil; Cons(int, ints) }` as type 2, `all w 2` is 0 and 1, `fields w 2 1` is 0 and 2, and a field of
-- type 2 is `Owned 2 (0 ∷ 1 ∷ [])`.
use Rattle.std.specs.Prelude.{ℕ, zero, suc, Bool, ◌&&◌, List, [], ◌∷◌, Option, Some, None, length, slice_get, nat_lt}
use Rattle.std.specs.Prelude.{if◌then◌else◌}
use Rattle.cell_code.specs.fip_language.Table.{Table, Shape, constructors, is_scalar}
use Rattle.cell_code.specs.declared.kind.Kind.{Kind}
use Rattle.cell_code.specs.declared.kind.Kind.TheVariants.{Scalar, Owned, Lent}

-- n numbers from i on: `numbers 2 3` is 2, 3 and 4
abbrev pub numbers : ℕ → ℕ → List ℕ
numbers i zero = []
numbers i (suc n) = i ∷ numbers (suc i) n

-- the number of int, or of a data type of the table
abbrev pub is_type : Table → ℕ → Bool
is_type w t = nat_lt t (suc (length w))

-- int, or a type all of whose constructors have no field
abbrev pub is_scalar_type : Table → ℕ → Bool
is_scalar_type w t = is_type w t && is_scalar w t

-- the number of a type's constructors
abbrev pub count : Table → ℕ → ℕ
count w t = length (constructors w t)

-- all constructors of a type
abbrev pub all : Table → ℕ → List ℕ
all w t = numbers 0 (count w t)

abbrev pub fields_of : Option Shape → List ℕ
fields_of None = []
fields_of (Some s) = s.fields

-- the types of the fields of constructor c of type t
abbrev pub fields : Table → ℕ → ℕ → List ℕ
fields w t c = fields_of (slice_get (constructors w t) c)

-- the kind of a value that comes as a field or as a result
abbrev pub field_kind : Table → ℕ → Kind
field_kind w t = if is_scalar_type w t then Scalar t else Owned t (all w t)

-- the kind of a word that is read as field i of the cell in register r, in the tree of a root
abbrev pub lent_kind : Table → ℕ → Option ℕ → ℕ → ℕ → Kind
lent_kind w t root r i =
    if is_scalar_type w t then Scalar t else Lent t (all w t) root (Some (record { register = r; field = i }))
