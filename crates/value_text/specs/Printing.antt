-- What is still to be printed, in the words of the private functions of the printer. No public clause speaks of it.
use Rattle.std.specs.Prelude.{◌≡◌, ℕ, zero, suc, List, [], ◌∷◌, ◌++◌, ◌-◌, length, drop, Option, Some, None}
use Rattle.fip_language.specs.Values.{Values, End, More}
use Rattle.fip_language.specs.Table.{Table}
use Rattle.fip_language.specs.Store.{Cell, Placed, Parts, value_of, values_of, word_of, words_of}
use Rattle.fip_language.specs.PrintedText.{printed, printed_more}
use Rattle.cell_store.specs.Cells.{Cells, cell_at}
use Rattle.value_text.specs.Standing.{Stands, StandAll}
use Rattle.value_text.specs.declared.print.Field.{Field}
use Rattle.value_text.specs.declared.print.Row.{Row}

-- what is to be printed: a value of a type, by its word; the last fields of the cell at a place, of these types; or
-- the ) of a cell
pub data Task : Type 0 where
  Whole : (ty w : ℕ) → Task
  Fields : (types : List ℕ) (p : ℕ) → Task
  Close : Task

-- the last fields of a cell; where none is left, its )
abbrev pub fields_of : List ℕ → ℕ → Task
fields_of [] p = Close
fields_of (k ∷ ks) p = Fields (k ∷ ks) p

abbrev pub closes : ℕ → List Task → List Task
closes zero ts = ts
closes (suc n) ts = Close ∷ closes n ts

-- what a row has to be printed, before other tasks
abbrev pub row_tasks : Row → List Task → List Task
row_tasks r ts = fields_of r.types.now r.place ∷ closes r.following ts

-- the rows as tasks, the last first
unfoldable pub last_first : List Row → List Task
last_first [] = []
last_first (r ∷ rs) = last_first rs ++ row_tasks r []

-- fields, without the bracket or the comma before them
abbrev pub printed_tail : Table → List ℕ → Values → List ℕ → List ℕ
printed_tail tb [] vs rest = rest
printed_tail tb (k ∷ ks) End rest = rest
printed_tail tb (k ∷ ks) (More v vs) rest = printed tb k v (printed_more tb ks vs rest)

-- the last fields of a cell are of these types, and stand for these trees
pub record AreLast (tb : Table) (cs : Cells) (types : List ℕ) (p : ℕ) (c : Cell) (xs : Parts) : Type 0 where
  pub there : cell_at cs p ≡ Some c
  pub stand : StandAll tb cs types xs
  pub words : drop (length c.fields - length types) c.fields ≡ words_of xs

-- The tasks, the next first, print this text: a value, the last fields of a cell with what stands before and after
-- them, or a ).
abbrev pub Prints : Table → Cells → List Task → List ℕ → Type 0
Prints tb cs [] text = text ≡ []
Prints tb cs (Whole ty w ∷ ts) text = (x : Placed) × Stands tb cs ty x × (word_of x ≡ w) × (rest : List ℕ)
    × (text ≡ printed tb ty (value_of x) rest) × Prints tb cs ts rest
Prints tb cs (Fields types p ∷ ts) text = (c : Cell) × (xs : Parts) × AreLast tb cs types p c xs × (rest : List ℕ)
    × (text ≡ printed_more tb types (values_of xs) rest) × Prints tb cs ts rest
Prints tb cs (Close ∷ ts) text = (rest : List ℕ) × (text ≡ 41 ∷ rest) × Prints tb cs ts rest

-- the tasks with the value that comes before them, where there is one
abbrev pub then_tasks : Option (ℕ × ℕ) → List Task → List Task
then_tasks None ts = ts
then_tasks (Some v) ts = Whole v.0 v.1 ∷ ts

-- the tasks with the first field of the cell at a place, and its further fields, before them, where there is one
abbrev pub then_field : Option Field → ℕ → List Task → List Task
then_field None p ts = ts
then_field (Some f) p ts = Whole f.ty f.word ∷ fields_of (f.rest).now p ∷ ts

abbrev pub one_task : Option (ℕ × ℕ) → ℕ
one_task None = 0
one_task (Some v) = 1

-- these tasks and what is printed make up the text
abbrev pub Printing : Table → Cells → List Task → List ℕ → List ℕ → Type 0
Printing tb cs ts out whole = (text : List ℕ) × Prints tb cs ts text × (out ++ text ≡ whole)
