-- The loaded state of a run: how its arguments, and the cells of its entry's credits, lie in a new store.
--
-- Each node with children is a cell, in the order of the ) in the text of the arguments: so a value's cells are
-- before the cell of the value that it is a field of. A cell with k fields takes k + 1 places, its own and one for each
-- field. After the arguments is a cell for each credit of the entry's header, with constructor 0 and fields 0. A
-- run is given the words of the arguments, then those of the credits' cells.
--
-- Cons(1, Cons(2, Nil)) has Cons(2, Nil) at 0 and Cons(1, ..) at 3, and its word is 7; a credit of size 2 after it has
-- its cell at 6, and its word is 13.
use Rattle.std.specs.Prelude.{ℕ, suc, ◌+◌, false, List, [], ◌∷◌, ◌++◌, Option, Some, None, length, replicate}
use Rattle.tree_refinement.specs.fip_language.Values.{Value, Int, Node, Values, End, More}
use Rattle.tree_refinement.specs.fip_language.Store.{Cell, int_word}
use Rattle.tree_refinement.specs.machine_semantics.Cells.{Store, size_of, credit_cell}
use Rattle.tree_refinement.specs.machine_semantics.Words.{atom_word, place_word}

-- the places of a cell: its own, and those of its fields
abbrev pub places_of : Cell → List (Option Cell)
places_of c = Some c ∷ replicate (size_of c) None

-- the places of a value's cells where n places are before them, and the value's word
abbrev mutual
  pub value_places : ℕ → Value → List (Option Cell)
  value_places n (Int i) = []
  value_places n (Node c End) = []
  value_places n (Node c (More v vs)) = (value_places n v ++ all_places (n + length (value_places n v)) vs)
      ++ places_of (record { tag = c; fields = value_word n v ∷ all_words (n + length (value_places n v)) vs })

  pub all_places : ℕ → Values → List (Option Cell)
  all_places n End = []
  all_places n (More v vs) = value_places n v ++ all_places (n + length (value_places n v)) vs

  pub value_word : ℕ → Value → ℕ
  value_word n (Int i) = int_word i
  value_word n (Node c End) = atom_word c
  value_word n (Node c (More v vs)) =
      place_word (n + length (value_places n v ++ all_places (n + length (value_places n v)) vs))

  pub all_words : ℕ → Values → List ℕ
  all_words n End = []
  all_words n (More v vs) = value_word n v ∷ all_words (n + length (value_places n v)) vs

-- the places of the cells of credits, and their words
abbrev pub credit_places : List ℕ → List (Option Cell)
credit_places [] = []
credit_places (k ∷ ks) = places_of (credit_cell k) ++ credit_places ks

abbrev pub credit_words : ℕ → List ℕ → List ℕ
credit_words n [] = []
credit_words n (k ∷ ks) = place_word n ∷ credit_words (n + suc k) ks

abbrev pub unreleased : List (Option Cell) → Store
unreleased cells = record { cells = cells; released = replicate (length cells) false }

-- the store in which a run begins, and the words that it is given
abbrev pub first_store : Values → List ℕ → Store
first_store vs credits = unreleased (all_places 0 vs ++ credit_places credits)

abbrev pub first_words : Values → List ℕ → List ℕ
first_words vs credits = all_words 0 vs ++ credit_words (length (all_places 0 vs)) credits

-- the words that a store must have for them: k + 1 for each cell of size k
abbrev pub words_of_credits : List ℕ → ℕ
words_of_credits [] = 0
words_of_credits (k ∷ ks) = suc k + words_of_credits ks
