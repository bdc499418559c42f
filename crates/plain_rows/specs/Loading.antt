-- What is still to be made of a store of cells. It serves the proof that the rows are for what the words stood for.
use Rattle.std.specs.Prelude.{◌≡◌, ℕ, ◌+◌, ◌*◌, List, [], ◌∷◌, ◌++◌, length, vec_len}
use Rattle.fip_base.specs.fip_language.Values.{Value as Tree, Node, Values, End, More as Further}
use Rattle.fip_base.specs.fip_language.Table.{Table}
use Rattle.fip_base.specs.fip_language.Store.{Cell, Placed, Parts, value_of, values_of, word_of}
use Rattle.cell_store.specs.Cells.{Cells}
use Rattle.value_text.specs.Standing.{Stands as CellStands}
use Rattle.value_text.specs.Printing.{AreLast}
use Rattle.plain_rows.specs.declared.load.Rows.{Rows}
use Rattle.plain_rows.specs.declared.load.Task.{Task}
use Rattle.plain_rows.specs.declared.load.Task.TheVariants as T
use Rattle.plain_rows.specs.Rows.{StandAll}

abbrev pub all_of : List Tree → Values
all_of [] = End
all_of (v ∷ vs) = Further v (all_of vs)

abbrev pub each_of : Values → List Tree
each_of End = []
each_of (Further v vs) = v ∷ each_of vs

-- the last first
unfoldable pub last_first : List Task → List Task
last_first [] = []
last_first (t ∷ ts) = last_first ts ++ t ∷ []

-- These tasks, the next first, make all of the whole out of what is made: the value of a word, or the rest of a cell's
-- fields, and of all of them its node.
abbrev pub Makes : Table → Cells → List Task → List Tree → List Tree → Type 0
Makes tb cs [] made whole = made ≡ whole
Makes tb cs (T.Whole ty w ∷ ts) made whole = (x : Placed) × CellStands tb cs ty x × (word_of x ≡ w)
    × Makes tb cs ts (made ++ value_of x ∷ []) whole
Makes tb cs (T.Fields types p ∷ ts) made whole = (c : Cell) × (xs : Parts) × AreLast tb cs types.now p c xs
    × (before : List Tree) × (vs : List Tree) × (made ≡ before ++ vs) × (length vs + length types.now ≡ length c.fields)
    × Makes tb cs ts (before ++ Node c.tag (all_of (vs ++ each_of (values_of xs))) ∷ []) whole

-- and the rows stand for what is made
abbrev pub Loads : Table → Cells → List Task → Rows → List Tree → Type 0
Loads tb cs ts rows whole = (made : List Tree) × StandAll rows.store rows.values.items (all_of made)
    × Makes tb cs ts made whole

-- what grows with each task
abbrev pub made_so_far : Rows → ℕ
made_so_far rows = 2 * vec_len rows.values + 2 * vec_len rows.store.fields
