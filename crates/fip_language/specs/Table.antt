-- The table of types: type 0 is int, type t + 1 is at place t of the table.
-- Type 1 is bool, with the constructors False and True.
use Rattle.std.specs.Prelude.{◌≡◌, ℕ, zero, suc, Bool, true, false, ◌&&◌, List, [], ◌∷◌, Some, slice_get, FitsSigned}
use Rattle.std.specs.Int.{w64}
use Rattle.fip_language.specs.Values.{Value, Int, Node, Values, End, More}

-- a constructor: its name, and the types of its fields
pub record Shape : Type 0 where
  pub name : List ℕ
  pub fields : List ℕ

abbrev pub Table : Type 0
Table = List (List Shape)

-- the constructors of the type at place t
abbrev pub shapes : Table → ℕ → List Shape
shapes [] t = []
shapes (row ∷ rows) zero = row
shapes (row ∷ rows) (suc t) = shapes rows t

-- the constructors of a type; int has none
abbrev pub constructors : Table → ℕ → List Shape
constructors tb zero = []
constructors tb (suc t) = shapes tb t

abbrev pub no_fields : List ℕ → Bool
no_fields [] = true
no_fields (k ∷ ks) = false

abbrev pub all_bare : List Shape → Bool
all_bare [] = true
all_bare (s ∷ ss) = no_fields s.fields && all_bare ss

-- int, and the types all of whose constructors have no field
abbrev pub is_scalar : Table → ℕ → Bool
is_scalar tb zero = true
is_scalar tb (suc t) = all_bare (shapes tb t)

-- A value of the type; an int has 64 bits.
abbrev mutual
  pub HasType : Table → ℕ → Value → Type 0
  HasType tb zero (Int i) = FitsSigned w64 i
  HasType tb zero (Node c vs) = ⊥
  HasType tb (suc t) (Int i) = ⊥
  HasType tb (suc t) (Node c vs) = (s : Shape) × (slice_get (shapes tb t) c ≡ Some s) × HaveTypes tb s.fields vs

  pub HaveTypes : Table → List ℕ → Values → Type 0
  HaveTypes tb [] End = Unit {0}
  HaveTypes tb [] (More v vs) = ⊥
  HaveTypes tb (k ∷ ks) End = ⊥
  HaveTypes tb (k ∷ ks) (More v vs) = HasType tb k v × HaveTypes tb ks vs
