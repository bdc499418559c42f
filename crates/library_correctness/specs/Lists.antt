-- Lists of ints as values. reverse, append and increment of `list` give the values of reverse xs, xs ++ ys and
-- map incremented xs.
use Rattle.std.specs.Prelude.{◌≡◌, ℤ, List, [], ◌∷◌, FitsSigned}
use Rattle.std.specs.Int.{w64}
use Rattle.fip_language.specs.Every.{Every}
use Rattle.fip_language.specs.Values.{Value, Int, Node, End, More}

abbrev pub cons : ℤ → Value → Value
cons x v = Node 1 (More (Int x) (More v End))

abbrev pub list_value : List ℤ → Value
list_value [] = Node 0 End
list_value (x ∷ xs) = cons x (list_value xs)

abbrev pub zip_value : List ℤ → List ℤ → Value
zip_value xs ys = Node 0 (More (list_value xs) (More (list_value ys) End))

-- the first item of the second list goes to the front of the first
abbrev pub right_of : List ℤ → List ℤ → Value
right_of xs [] = zip_value xs []
right_of xs (y ∷ ys) = zip_value (y ∷ xs) ys

-- a value that is that of a list of ints of 64 bits
pub record IsList (v : Value) : Type 0 where
  pub items : List ℤ
  pub is : v ≡ list_value items
  pub fit : Every (FitsSigned w64) items

-- a value that is that of two lists in a zipper
pub record IsZipper (v : Value) : Type 0 where
  pub before : List ℤ
  pub after : List ℤ
  pub is : v ≡ zip_value before after
