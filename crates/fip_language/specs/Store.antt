-- The store: cells by place, words, and which tree a word stands for.
-- A word of a data type is 2c for the constructor c without fields, and 2p + 1 for the cell at place p; an int is its
-- 64 bits. So it is a field's type that decides how its word is read.
-- With Cons(1, Nil) in cell 0, where Nil is constructor 0 and Cons constructor 1, the cell has tag 1 and the words
-- 1 (the int) and 0 (Nil), and the list's word is 1.
use Rattle.std.specs.Prelude.{◌≡◌, ℕ, zero, suc, ◌+◌, ◌*◌, ◌-◌, ◌^◌, ℤ, pos, negsuc, List, [], ◌∷◌, ◌++◌, Some}
use Rattle.std.specs.Prelude.{slice_get, nat_eq, if◌then◌else◌, FitsSigned}
use Rattle.std.specs.Int.{w64}
use Rattle.fip_language.specs.Values.{Value, Int, Node, Values, End, More}
use Rattle.fip_language.specs.Table.{Shape, Table, shapes}

-- a cell: the number of its constructor, and a word for each field
pub record Cell : Type 0 where
  pub tag : ℕ
  pub fields : List ℕ

-- the 64 bits of an int, as a number
abbrev pub int_word : ℤ → ℕ
int_word (pos n) = n
int_word (negsuc n) = 2 ^ 64 - suc n

-- A tree that lies in the store: each node with children has the place of its cell.
mutual
  pub data Placed : Type 0 where
    PlacedInt : (i : ℤ) → Placed
    Bare : (c : ℕ) → Placed
    At : (place c : ℕ) (parts : Parts) → Placed

  pub data Parts : Type 0 where
    NoParts : Parts
    MoreParts : (x : Placed) (xs : Parts) → Parts

-- the value that it is
abbrev mutual
  pub value_of : Placed → Value
  value_of (PlacedInt i) = Int i
  value_of (Bare c) = Node c End
  value_of (At p c xs) = Node c (values_of xs)

  pub values_of : Parts → Values
  values_of NoParts = End
  values_of (MoreParts x xs) = More (value_of x) (values_of xs)

-- the word that names it
abbrev pub word_of : Placed → ℕ
word_of (PlacedInt i) = int_word i
word_of (Bare c) = 2 * c
word_of (At p c xs) = 2 * p + 1

abbrev pub words_of : Parts → List ℕ
words_of NoParts = []
words_of (MoreParts x xs) = word_of x ∷ words_of xs

-- the places of its cells, each as often as it is in the tree
abbrev mutual
  pub places : Placed → List ℕ
  places (PlacedInt i) = []
  places (Bare c) = []
  places (At p c xs) = p ∷ places_of_all xs

  pub places_of_all : Parts → List ℕ
  places_of_all NoParts = []
  places_of_all (MoreParts x xs) = places x ++ places_of_all xs

-- 1 where these are one place
abbrev pub one_at : ℕ → ℕ → ℕ
one_at q p = if nat_eq q p then 1 else 0

-- how often a place occurs in a list
abbrev pub count : ℕ → List ℕ → ℕ
count q [] = 0
count q (p ∷ ps) = one_at q p + count q ps

-- how many of a tree's cells are at this place
abbrev mutual
  pub uses : ℕ → Placed → ℕ
  uses q (PlacedInt i) = 0
  uses q (Bare c) = 0
  uses q (At p c xs) = one_at q p + uses_of_all q xs

  pub uses_of_all : ℕ → Parts → ℕ
  uses_of_all q NoParts = 0
  uses_of_all q (MoreParts x xs) = uses q x + uses_of_all q xs

-- The cells hold this tree, and it has this type.
abbrev mutual
  pub Stands : Table → List Cell → ℕ → Placed → Type 0
  Stands tb cs zero (PlacedInt i) = FitsSigned w64 i
  Stands tb cs zero (Bare c) = ⊥
  Stands tb cs zero (At p c xs) = ⊥
  Stands tb cs (suc t) (PlacedInt i) = ⊥
  Stands tb cs (suc t) (Bare c) = (s : Shape) × (slice_get (shapes tb t) c ≡ Some s) × (s.fields ≡ [])
  Stands tb cs (suc t) (At p c xs) = (slice_get cs p ≡ Some (record { tag = c; fields = words_of xs })) × (s : Shape)
      × (slice_get (shapes tb t) c ≡ Some s) × StandAll tb cs s.fields xs

  pub StandAll : Table → List Cell → List ℕ → Parts → Type 0
  StandAll tb cs [] NoParts = Unit {0}
  StandAll tb cs [] (MoreParts x xs) = ⊥
  StandAll tb cs (k ∷ ks) NoParts = ⊥
  StandAll tb cs (k ∷ ks) (MoreParts x xs) = Stands tb cs k x × StandAll tb cs ks xs
