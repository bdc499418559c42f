-- It serves the proof of a Drop: trees that are still to be released, as words on the store's stack, the type and the
-- place of a root in one word.
-- Of a cell with an int, a list in cell 5 and an empty list, lists being of type 2, the fields leave one word, 2 * 2^32
-- + 5.
use Rattle.std.specs.Prelude.{◌≡◌, ℕ, ◌+◌, ◌*◌, ◌/◌, ◌%◌, List, [], ◌∷◌, ◌++◌}
use Rattle.std.specs.Prelude.{Option, Some, None, nat_eq, map, slice_index_or, if◌then◌else◌}
use Rattle.fip_language.specs.Table.{Table}
use Rattle.fip_language.specs.Store.{Placed, At, Parts, places, places_of_all}
use Rattle.machine_semantics.specs.Cells.{Store, Release, changed_by}
use Rattle.machine_semantics.specs.Trees.{Stands}

-- the word of a tree of type t whose word is w; none where it has no cell
abbrev pub entry : ℕ → ℕ → Option ℕ
entry t w = if nat_eq t 0 then None else if nat_eq (w % 2) 0 then None else Some (t * 4294967296 + (w / 2) % 4294967296)

abbrev pub in_list : Option ℕ → List ℕ
in_list None = []
in_list (Some e) = e ∷ []

-- that of field i
abbrev pub field_entry : List ℕ → List ℕ → ℕ → List ℕ
field_entry ts ws i = in_list (entry (slice_index_or ts i 0) (slice_index_or ws i 0))

-- the words of a cell's fields, the first one on top, which is last
abbrev pub entries : List ℕ → List ℕ → List ℕ
entries [] ws = []
entries (t ∷ ts) [] = []
entries (t ∷ ts) (w ∷ ws) = entries ts ws ++ in_list (entry t w)

-- a tree with a cell, of data type number `type` from 1
pub record Node : Type 0 where
  pub type : ℕ
  pub place : ℕ
  pub tag : ℕ
  pub parts : Parts

abbrev pub tree : Node → Placed
tree n = At n.place n.tag n.parts

abbrev pub word : Node → ℕ
word n = n.type * 4294967296 + n.place % 4294967296

abbrev pub words : List Node → List ℕ
words [] = []
words (n ∷ ns) = words ns ++ word n ∷ []

abbrev pub all_places : List Node → List ℕ
all_places [] = []
all_places (n ∷ ns) = places (tree n) ++ all_places ns

abbrev pub AllStand : Table → Store → List Node → Type 0
AllStand tb s [] = Unit {0}
AllStand tb s (n ∷ ns) = Stands tb s n.type (tree n) × AllStand tb s ns

-- These trees are still to be released, and then the store is the last one.
pub record Pending (tb : Table) (first now last : Store) (stack : List ℕ) (ns rest : List Node) : Type 0 where
  pub cells : now.cells ≡ first.cells
  pub stand : AllStand tb first ns
  pub on_stack : stack ≡ words rest
  pub goes : changed_by (map (λ p. Release p) (all_places ns)) now ≡ Some last

-- All that is to be released is on the stack: the cells at these places, in this order.
abbrev pub Held : Table → Store → Store → Store → List ℕ → List ℕ → Type 0
Held tb first now last pushed ps = (ns : List Node) × (all_places ns ≡ ps) × Pending tb first now last pushed ns ns

-- The tree that this word stands for is to be released next, its root first of all.
abbrev pub HeldBut : Table → Store → Store → Store → List ℕ → ℕ → ℕ → List ℕ → Type 0
HeldBut tb first now last pushed e p ps = (n : Node) × (ns : List Node) × (word n ≡ e) × (n.place ≡ p)
    × (places_of_all n.parts ++ all_places ns ≡ ps) × Pending tb first now last pushed (n ∷ ns) ns
