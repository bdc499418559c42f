-- What is still to be printed. It serves the proof that the text is the canonical one.
use Rattle.std.specs.Prelude.{◌≡◌, ℕ, List, [], ◌∷◌, ◌++◌}
use Rattle.fip_base.specs.fip_language.Values.{Value as Tree, Values}
use Rattle.fip_base.specs.fip_language.Table.{Table, HasType, HaveTypes}
use Rattle.fip_base.specs.fip_language.PrintedText.{printed, printed_more}
use Rattle.plain_rows.specs.declared.store.Store.{Store}
use Rattle.plain_rows.specs.declared.print.Task.{Task}
use Rattle.plain_rows.specs.declared.print.Task.TheVariants as T
use Rattle.plain_rows.specs.Rows.{Stands, StandAll}

-- the last first
unfoldable pub last_first : List Task → List Task
last_first [] = []
last_first (t ∷ ts) = last_first ts ++ t ∷ []

-- The tasks, the next first, print this text and then what comes after it: a value, or the last fields of a row with
-- what is before and after them.
abbrev pub Prints : Table → Store → List ℕ → List Task → List ℕ → Type 0
Prints tb s following [] text = text ≡ following
Prints tb s following (T.Whole ty w ∷ ts) text = (v : Tree) × HasType tb ty v × Stands s w v × (rest : List ℕ)
    × (text ≡ printed tb ty v rest) × Prints tb s following ts rest
Prints tb s following (T.Fields types ws ∷ ts) text = (vs : Values) × HaveTypes tb types.now vs × StandAll s ws.now vs
    × (rest : List ℕ) × (text ≡ printed_more tb types.now vs rest) × Prints tb s following ts rest

-- these tasks and what is printed make up the text
abbrev pub Printing : Table → Store → List ℕ → List Task → List ℕ → List ℕ → Type 0
Printing tb s following ts out whole = (text : List ℕ) × Prints tb s following ts text × (out ++ text ≡ whole)
