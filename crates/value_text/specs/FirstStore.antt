-- How the cells of values, and those of credits after them, lie where a store has no released cell.
--
-- Each node with children is a cell, in the order of the ) in the text of the values: so a value's cells stand before
-- the cell of the value that it is a field of. A cell with k fields takes k + 1 places, its own and one for each field.
-- After the values stands a cell for each credit, with constructor 0 and fields 0.
--
-- In a new store Cons(1, Cons(2, Nil)) has Cons(2, Nil) at 0 and Cons(1, ..) at 3, and its word is 7; a credit of size
-- 2 after it has its cell at 6, and its word is 13.
use Rattle.std.specs.Prelude.{◌≡◌, ℕ, suc, ◌+◌, ◌*◌, false, List, [], ◌∷◌, ◌++◌, Some, None, length, replicate}
use Rattle.fip_language.specs.Values.{Value, Int, Node, Values, End, More}
use Rattle.fip_language.specs.Store.{Cell, int_word}
use Rattle.fip_language.specs.Table.{Table}
use Rattle.fip_language.specs.ValueText.{SpellsValues}
use Rattle.cell_store.specs.Cells.{Cells, size_of}
use Rattle.cell_store.specs.Made.{Loading}

-- the places of a cell: its own, and those of its fields
abbrev pub places_of : Cell → Cells
places_of c = Some c ∷ replicate (size_of c) None

-- the word that names the cell at place p
abbrev pub place_word : ℕ → ℕ
place_word p = 2 * p + 1

-- the places of a value's cells where n places stand before them, and the value's word
abbrev mutual
  pub value_places : ℕ → Value → Cells
  value_places n (Int i) = []
  value_places n (Node c End) = []
  value_places n (Node c (More v vs)) = (value_places n v ++ all_places (n + length (value_places n v)) vs)
      ++ places_of (record { tag = c; fields = value_word n v ∷ all_words (n + length (value_places n v)) vs })

  pub all_places : ℕ → Values → Cells
  all_places n End = []
  all_places n (More v vs) = value_places n v ++ all_places (n + length (value_places n v)) vs

  pub value_word : ℕ → Value → ℕ
  value_word n (Int i) = int_word i
  value_word n (Node c End) = 2 * c
  value_word n (Node c (More v vs)) =
      place_word (n + length (value_places n v ++ all_places (n + length (value_places n v)) vs))

  pub all_words : ℕ → Values → List ℕ
  all_words n End = []
  all_words n (More v vs) = value_word n v ∷ all_words (n + length (value_places n v)) vs

-- the cell of a credit of size k
abbrev pub credit_cell : ℕ → Cell
credit_cell k = record { tag = 0; fields = replicate k 0 }

-- the places of the cells of credits, and their words
abbrev pub credit_places : List ℕ → Cells
credit_places [] = []
credit_places (k ∷ ks) = places_of (credit_cell k) ++ credit_places ks

abbrev pub credit_words : ℕ → List ℕ → List ℕ
credit_words n [] = []
credit_words n (k ∷ ks) = place_word n ∷ credit_words (n + suc k) ks

-- the places of values and credits, and their words, where n places stand before them
abbrev pub loaded_places : ℕ → Values → List ℕ → Cells
loaded_places n vs credits = all_places n vs ++ credit_places credits

abbrev pub loaded_words : ℕ → Values → List ℕ → List ℕ
loaded_words n vs credits = all_words n vs ++ credit_words (n + length (all_places n vs)) credits

-- These places stand after those of the old store, no cell of them is released, and all else is as it was.
pub record IsAfter (old new : Loading) (places : Cells) : Type 0 where
  pub cells : new.cells ≡ old.cells ++ places
  pub released : new.released ≡ old.released ++ replicate (length places) false

-- The values that the text spells lie so after the cells of the old store, the credits after them, and these are
-- their words.
pub record IsInOrder (tb : Table) (types credits bytes : List ℕ) (old new : Loading) (words : List ℕ) : Type 0 where
  pub values : Values
  pub spelled : SpellsValues tb types bytes values
  pub following : IsAfter old new (loaded_places (length old.cells) values credits)
  pub named : words ≡ loaded_words (length old.cells) values credits
