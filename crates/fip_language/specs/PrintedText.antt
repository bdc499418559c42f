-- The canonical text of values: a line for each, ended by an LF; one space after each comma and no other blank; an
-- int without a + and without leading zeros. Cons(1, Nil) is printed just so.
-- Each function is given the text that comes after.
use Rattle.std.specs.Prelude.{ℕ, zero, suc, List, [], ◌∷◌, ◌++◌}
use Rattle.std.specs.Fmt.{signed_decimal}
use Rattle.fip_language.specs.Values.{Value, Int, Node, Values, End, More}
use Rattle.fip_language.specs.Table.{Shape, Table, shapes}

-- the constructor of this number
abbrev pub shape_at : List Shape → ℕ → Shape
shape_at [] c = record { name = []; fields = [] }
shape_at (s ∷ ss) zero = s
shape_at (s ∷ ss) (suc c) = shape_at ss c

abbrev mutual
  -- a value of a type
  pub printed : Table → ℕ → Value → List ℕ → List ℕ
  printed tb zero (Int i) rest = signed_decimal i ++ rest
  printed tb zero (Node c vs) rest = rest
  printed tb (suc t) (Int i) rest = rest
  printed tb (suc t) (Node c vs) rest = (shape_at (shapes tb t) c).name
      ++ printed_fields tb (shape_at (shapes tb t) c).fields vs rest

  -- the fields after a constructor's name: 40 is (
  pub printed_fields : Table → List ℕ → Values → List ℕ → List ℕ
  printed_fields tb [] vs rest = rest
  printed_fields tb (k ∷ ks) End rest = rest
  printed_fields tb (k ∷ ks) (More v vs) rest = 40 ∷ printed tb k v (printed_more tb ks vs rest)

  -- the fields after a field: 44 is a comma, 32 a space, 41 is )
  pub printed_more : Table → List ℕ → Values → List ℕ → List ℕ
  printed_more tb [] vs rest = 41 ∷ rest
  printed_more tb (k ∷ ks) End rest = 41 ∷ rest
  printed_more tb (k ∷ ks) (More v vs) rest = 44 ∷ 32 ∷ printed tb k v (printed_more tb ks vs rest)

-- a line for each value: 10 is LF
abbrev pub printed_lines : Table → List ℕ → Values → List ℕ
printed_lines tb [] vs = []
printed_lines tb (k ∷ ks) End = []
printed_lines tb (k ∷ ks) (More v vs) = printed tb k v (10 ∷ printed_lines tb ks vs)
