-- Which tree a word stands for. A tree that lies in a store has the place of a cell at each node with fields; the words
-- of its parts are the words of that cell, as their types say.
-- With Cons(1, Nil) in cell 0, Nil being constructor 0 and Cons constructor 1 of type 2, the word 1 of type 2 stands
-- for At 0 1 (the int 1, Bare 0), whose list of cells is 0.
use Rattle.std.specs.Prelude.{◌≡◌, ℕ, zero, suc, ◌/◌, ◌^◌, Bool, true, false, List, [], ◌∷◌, Option, Some, None}
use Rattle.std.specs.Prelude.{length, nat_lt, slice_get, option_and_then, option_map, FitsSigned}
use Rattle.std.specs.Int.{w64}
use Rattle.cell_code.specs.fip_language.Values.{Value}
use Rattle.cell_code.specs.fip_language.Table.{Shape, Table, shapes}
use Rattle.cell_code.specs.fip_language.Store.{Cell, Placed, PlacedInt, Bare, At, Parts, NoParts, MoreParts, value_of, word_of}
use Rattle.cell_code.specs.fip_language.Store.{words_of, places}
use Rattle.machine_semantics.specs.Words.{is_place, int_of}
use Rattle.machine_semantics.specs.Cells.{Store, cell_at}

-- a node with a cell has a part
abbrev pub HasPart : Parts → Type 0
HasPart NoParts = ⊥
HasPart (MoreParts x xs) = Unit {0}

-- The store holds this tree, and it has this type. An int has 64 bits.
abbrev mutual
  pub Stands : Table → Store → ℕ → Placed → Type 0
  Stands tb s zero (PlacedInt i) = FitsSigned w64 i
  Stands tb s zero (Bare c) = ⊥
  Stands tb s zero (At p c xs) = ⊥
  Stands tb s (suc t) (PlacedInt i) = ⊥
  Stands tb s (suc t) (Bare c) = (k : Shape) × (slice_get (shapes tb t) c ≡ Some k) × (k.fields ≡ [])
  Stands tb s (suc t) (At p c xs) = (cell_at s p ≡ Some (record { tag = c; fields = words_of xs })) × HasPart xs
      × (k : Shape) × (slice_get (shapes tb t) c ≡ Some k) × StandAll tb s k.fields xs

  pub StandAll : Table → Store → List ℕ → Parts → Type 0
  StandAll tb s [] NoParts = Unit {0}
  StandAll tb s [] (MoreParts x xs) = ⊥
  StandAll tb s (t ∷ ts) NoParts = ⊥
  StandAll tb s (t ∷ ts) (MoreParts x xs) = Stands tb s t x × StandAll tb s ts xs

-- The word of this type is that of the tree.
pub record IsTree (tb : Table) (s : Store) (t w : ℕ) (x : Placed) : Type 0 where
  pub word : word_of x ≡ w
  pub stands : Stands tb s t x

-- The word of this type stands for the value, whose tree has this list of cells.
abbrev pub StandsFor : Table → Store → ℕ → ℕ → Value → List ℕ → Type 0
StandsFor tb s t w v ps = (x : Placed) × IsTree tb s t w x × (value_of x ≡ v) × (places x ≡ ps)

-- Reading the tree of a word: what it is, by a reading of words of its fields. None where there is no tree.

abbrev pub read_int : Bool → ℕ → Option Placed
read_int true w = Some (PlacedInt (int_of w))
read_int false w = None

abbrev pub read_all_parts : (ℕ → ℕ → Option Placed) → List ℕ → List ℕ → Option Parts
read_all_parts read [] [] = Some NoParts
read_all_parts read [] (w ∷ ws) = None
read_all_parts read (t ∷ ts) [] = None
read_all_parts read (t ∷ ts) (w ∷ ws) =
    option_and_then (λ x. option_map (λ xs. MoreParts x xs) (read_all_parts read ts ws)) (read t w)

-- a constructor without fields
abbrev pub read_bare : ℕ → Option (List ℕ) → Option Placed
read_bare c None = None
read_bare c (Some []) = Some (Bare c)
read_bare c (Some (t ∷ ts)) = None

-- a cell whose constructor has these fields' types
abbrev pub read_fields : (ℕ → ℕ → Option Placed) → ℕ → Cell → Option (List ℕ) → Option Placed
read_fields read p c None = None
read_fields read p c (Some []) = None
read_fields read p c (Some (t ∷ ts)) = option_map (λ xs. At p c.tag xs) (read_all_parts read (t ∷ ts) c.fields)

abbrev pub field_types : List Shape → ℕ → Option (List ℕ)
field_types ks c = option_map (λ k. k.fields) (slice_get ks c)

abbrev pub read_cell : (ℕ → ℕ → Option Placed) → List Shape → ℕ → Option Cell → Option Placed
read_cell read ks p None = None
read_cell read ks p (Some c) = read_fields read p c (field_types ks c.tag)

abbrev pub read_data : (ℕ → ℕ → Option Placed) → Store → List Shape → ℕ → Bool → Option Placed
read_data read s ks h true = read_cell read ks h (cell_at s h)
read_data read s ks h false = read_bare h (field_types ks h)

abbrev pub read_word : (ℕ → ℕ → Option Placed) → Table → Store → ℕ → ℕ → Option Placed
read_word read tb s zero w = read_int (nat_lt w (2 ^ 64)) w
read_word read tb s (suc t) w = read_data read s (shapes tb t) (w / 2) (is_place w)

-- a tree with at most n cells below one another
abbrev pub tree_within : ℕ → Table → Store → ℕ → ℕ → Option Placed
tree_within zero tb s t w = read_word (λ u v. None) tb s t w
tree_within (suc n) tb s t w = read_word (λ u v. tree_within n tb s u v) tb s t w

-- the tree that a word of type t stands for: no more cells lie below one another than there are
abbrev pub tree_of : Table → Store → ℕ → ℕ → Option Placed
tree_of tb s t w = tree_within (length s.cells) tb s t w
